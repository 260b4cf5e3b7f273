-- The stage that closes a torn frame: its step calls do the writes one by one, then the job goes on to its frame.
use mathlib.Core.Path.{◌≡◌, refl, sym, ap, ap₂, subst, ◌∙◌}
use mathlib.Core.List.{List, [], ◌∷◌, ◌++◌, map}
use mathlib.Core.Bool.{Bool, cond}
use Prim.Native.Nat.{ℕ, suc, ◌+◌, ◌-◌, ◌≤◌, ◌<◌}
use native.Mathlib.Omega.{arith}
use lib.Dec.{eqb, ltb}
use lib.ListN.{length, get_or, length-map, get_or-map, get_or-append, replicate}
use borrow.Author.Tests.{ltb-true, ltb-false}
use Rattle.flash.specs.Flash.{Step, program, apply_all, Write, write, write_step, writes}
use Rattle.flash.proofs.Cases.{on_test}
use Rattle.board.specs.declared.Stage.{Stage}
use Rattle.board.specs.declared.Stage.TheVariants.{Close}
use Rattle.board.specs.declared.Job.{Job}
use Rattle.board.specs.declared.Cursor.{Cursor}
use Rattle.board.specs.declared.Rest.{Rest}
use Rattle.board.specs.declared.Record.{Record}
use Rattle.board.specs.Record.{buffer, cursor, ending, idle}
use Rattle.journal.specs.Block.{close_byte}
use Rattle.board.specs.Step.{enter, enter_append, enter_close, advance}
use Rattle.board.specs.Mount.{close_array}
use Rattle.board.specs.Exec.{exec}
use Rattle.board.specs.Plan.{Follows, on_block}
use Rattle.board.proofs.Images.{length-all-steps}
use Rattle.board.proofs.Pipeline.{Shape, Runs, follows_stage}
use Rattle.board.proofs.PipelineEnd.{job_at, onward-on, onward-off, marks_inside, follows_append}

-- writes that the stage does: zeros, and a finish byte at the end; below an offset
pub record Closing (s : ℕ) (ws : List Write) : Type 0 where
  pub bytes : (i : ℕ) → i < length ws → (get_or ws i (write 0 0)).byte ≡ close_byte (eqb (suc i) (length ws))
  pub below : (i : ℕ) → i < length ws → (get_or ws i (write 0 0)).at < s

-- none
pub closing-none : (s : ℕ) → Closing s []
closing-none s = record { bytes = λ i h. absurd (omega arith); below = λ i h. absurd (omega arith) }

no_writes : (k : ℕ) (ws : List Write) → length ws ≡ 0 → on_block k ws ≡ []
no_writes k [] q = refl
no_writes k (w ∷ ws) q = absurd (omega arith)

module _ {N : ℕ} (s : ℕ) (home : Rest) (shape : Shape N home s) (places : List ℕ) (j : Job) (ws : List Write) (bytes : List ℕ)
    (closes : j.closes ≡ length ws) (close : j.close ≡ close_array ws) (size : j.size ≡ length bytes) (here : home.block < N)
    (room : home.end + length bytes ≤ s) (fit : Closing s ws) where
  abbrev at : ℕ → ℕ → ℕ → ℕ → ℕ → List ℕ → ℕ → Record
  at a d so z o u i = job_at home places j (buffer bytes) Close (cursor i a d so z o) u

  acts : (i : ℕ) → i < length (on_block home.block ws)
      → program home.block (get_or j.close i 0) (close_byte (eqb (suc i) j.closes)) ≡ get_or (on_block home.block ws) i (write_step home.block (write 0 0))
  acts i h =
      let n : i < length ws = omega (arith, length-map ws (write_step home.block)) in
      let offset : get_or j.close i 0 ≡ (get_or ws i (write 0 0)).at =
      ap (λ (l : List ℕ). get_or l i 0) close
      ∙ get_or-append (map (λ (w : Write). w.at) ws) (replicate (4 - length ws) 0) 0 i (omega (arith, length-map ws (λ (w : Write). w.at)))
      ∙ get_or-map (λ (w : Write). w.at) ws i (write 0 0) in
      ap₂ (program home.block) offset (ap (λ (m : ℕ). close_byte (eqb (suc i) m)) closes ∙ sym (fit.bytes i n))
      ∙ sym (get_or-map (write_step home.block) ws i (write 0 0))

  closings : (a d so z o : ℕ) (u : List ℕ)
      → Runs N home s Close (at a d so z o u) (λ img. enter_append (at a d so z o u (length ws - 1))) (on_block home.block ws)
      (write_step home.block (write 0 0))
  unfolding advance
  closings a d so z o u =
      record {
        phase = λ i. refl;
        stands = λ i. refl;
        acts = acts;
        inside = marks_inside s home.block ws (write 0 0) shape.count here fit.below;
        goes = λ i img h. onward-on Close j.closes (at a d so z o u i) (enter_append (at a d so z o u i))
            (omega (arith, length-map ws (write_step home.block)));
        ends = λ i img h.
            let n : i ≡ length ws - 1 = omega (arith, length-map ws (write_step home.block)) in
            onward-off Close j.closes (at a d so z o u i) (enter_append (at a d so z o u i)) (omega (arith, length-map ws (write_step home.block)))
            ∙ ap (λ (m : ℕ). enter_append (at a d so z o u m)) n;
      }

  pub follows_close : (st : Stage) (c : Cursor) (u img : List ℕ) → length img ≡ suc home.last
      → Follows N (exec N) img (enter_close (job_at home places j (buffer bytes) st c u))
      (on_block home.block ws ++ on_block home.block (writes home.end bytes)) (idle places (ending home (home.end + length bytes)))
  unfolding enter_close
  follows_close st c u img q =
      let r : Record = job_at home places j (buffer bytes) st c u in
      let steps : List Step = on_block home.block ws in
      let tail : List Step = on_block home.block (writes home.end bytes) in
      let done : Record = idle places (ending home (home.end + length bytes)) in
      let app : (s' : Stage) (c' : Cursor) (img' : List ℕ) → length img' ≡ suc home.last
      → Follows N (exec N) img' (enter_append (job_at home places j (buffer bytes) s' c' u)) tail done =
      λ s' c' img' q'. follows_append s home shape places j bytes size here room s' c' u img' q' in
      on_test (ltb 0 j.closes)
      (λ t.
      subst (λ (b : Bool). Follows N (exec N) img (cond b (enter Close r) (enter_append r)) (steps ++ tail) done) (sym t)
      (follows_stage home s Close (at c.at c.id c.source c.size c.off u)
      (λ i. enter_append (at c.at c.id c.source c.size c.off u (length ws - 1))) steps (write_step home.block (write 0 0)) shape
      (closings c.at c.id c.source c.size c.off u) tail done (length ws - 1) img
      (omega (arith, length-map ws (write_step home.block), ltb-true 0 j.closes t)) q
      (app Close (cursor (length ws - 1) c.at c.id c.source c.size c.off) (apply_all s steps img) (length-all-steps s steps img ∙ q))))
      (λ t.
      let none : steps ≡ [] = no_writes home.block ws (omega (arith, ltb-false 0 j.closes t)) in
      subst (λ (b : Bool). Follows N (exec N) img (cond b (enter Close r) (enter_append r)) (steps ++ tail) done) (sym t)
      (subst (λ (xs : List Step). Follows N (exec N) img (enter_append r) (xs ++ tail) done) (sym none) (app st c img q)))
