-- The last stages of a job: the block sealed, the old one erased, the frame appended.
use mathlib.Core.Path.{◌≡◌, refl, sym, ap, subst, ◌∙◌}
use mathlib.Core.List.{List, [], ◌∷◌, ◌++◌, append-nil}
use mathlib.Core.Bool.{Bool, true, cond}
use Prim.Native.Nat.{ℕ, zero, suc, ◌+◌, ◌-◌, ◌≤◌, ◌<◌}
use native.Mathlib.Omega.{arith}
use lib.Dec.{ltb}
use lib.ListN.{length, get_or, length-map, get_or-map, get_or-append, replicate}
use borrow.Author.Tests.{lt-ltb, le-ltb, ltb-true, ltb-false}
use Rattle.flash.specs.Flash.{size_in, is_count, Step, program, erase, block_of, within, apply, apply_all, Write, write, write_step, writes}
use Rattle.flash.proofs.Cases.{on_test}
use Rattle.flash.proofs.Image.{length-apply}
use Rattle.flash.proofs.Programming.{length-writes, writes_at}
use Rattle.frame.specs.Frame.{buffer_len}
use Rattle.journal.specs.Block.{seal_writes, seal_write, mark_writes, state_at, valid_data, header_len}
use Rattle.board.specs.declared.Stage.{Stage}
use Rattle.board.specs.declared.Stage.TheVariants.{Seal, Drop, Append}
use Rattle.board.specs.declared.Phase.TheVariants.{Busy}
use Rattle.board.specs.declared.Job.{Job}
use Rattle.board.specs.declared.Cursor.{Cursor}
use Rattle.board.specs.declared.Rest.{Rest}
use Rattle.board.specs.declared.Record.{Record}
use Rattle.board.specs.Record.{buffer, cursor, landing, ending, idle, in_stage}
use Rattle.board.specs.Step.{enter, enter_append, enter_drop, landed, onward, next_index, advance}
use Rattle.board.specs.Exec.{exec}
use Rattle.board.specs.Plan.{Follows, on_block}
use Rattle.board.proofs.Images.{length-all-steps}
use Rattle.board.proofs.Pipeline.{inside-yes, Shape, shape-landing, same-shape, follows-step, Runs, follows_stage}

-- a record in a job
abbrev pub job_at : Rest → List ℕ → Job → List ℕ → Stage → Cursor → List ℕ → Record
job_at home places j frame st c u =
    record { phase = Busy st; rest = home; places = places; job = j; cursor = c; unit = u; frame = frame }

-- the erase of the old block
abbrev pub dropped : Job → ℕ → List Step
dropped j k = cond j.drops (erase k ∷ []) []

-- what is left once the frames are copied up to an offset
abbrev pub sealing : Job → ℕ → List ℕ → ℕ → List Step
sealing j k bytes a = on_block j.target (seal_writes j.time) ++ (dropped j k ++ on_block j.target (writes a bytes))

-- out of a stage, or on in it
pub onward-on : (st : Stage) (n : ℕ) (r after : Record) → suc r.cursor.index < n → onward st n r after ≡ in_stage st (next_index r.cursor) r
onward-on st n r after h = ap (λ (b : Bool). cond b (in_stage st (next_index r.cursor) r) after) (lt-ltb (suc r.cursor.index) n h)

pub onward-off : (st : Stage) (n : ℕ) (r after : Record) → suc r.cursor.index ≡ n → onward st n r after ≡ after
onward-off st n r after h = ap (λ (b : Bool). cond b (in_stage st (next_index r.cursor) r) after) (le-ltb (suc r.cursor.index) n (omega arith))

-- the writes of bytes from an offset on, by number
pub length-steps : (k o : ℕ) (bs : List ℕ) → length (on_block k (writes o bs)) ≡ length bs
length-steps k o bs = length-map (writes o bs) (write_step k) ∙ length-writes o bs

no_steps : (k o : ℕ) (bs : List ℕ) → length bs ≡ 0 → on_block k (writes o bs) ≡ []
unfolding writes
no_steps k o [] q = refl
no_steps k o (b ∷ bs) q = absurd (omega arith)

step_of : (k o : ℕ) (bs : List ℕ) (i : ℕ) → i < length bs → get_or (on_block k (writes o bs)) i (program k 0 0) ≡ program k (o + i) (get_or bs i 0)
step_of k o bs i h = get_or-map (write_step k) (writes o bs) i (write 0 0) ∙ ap (write_step k) (writes_at o bs i (write 0 0) h)

pub step-inside : {N : ℕ} (s k o : ℕ) (bs : List ℕ) → is_count N ≡ true → k < N → o + length bs ≤ s → (i : ℕ) → i < length (on_block k (writes o bs))
    → within N s (get_or (on_block k (writes o bs)) i (program k 0 0)) ≡ true
step-inside {N} s k o bs c h room i q =
    let n : i < length bs = omega (arith, length-steps k o bs) in
    ap (within N s) (step_of k o bs i n) ∙ inside-yes s (program k (o + i) (get_or bs i 0)) c h (omega arith)

-- the same from a buffer
pub buffered : (k o : ℕ) (bs : List ℕ) (i : ℕ) → i < length (on_block k (writes o bs))
    → program k (o + i) (get_or (buffer bs) i 0) ≡ get_or (on_block k (writes o bs)) i (program k 0 0)
buffered k o bs i h =
    let n : i < length bs = omega (arith, length-steps k o bs) in
    ap (program k (o + i)) (get_or-append bs (replicate (buffer_len - length bs) 0) 0 i n) ∙ sym (step_of k o bs i n)

-- writes to a block, by number
pub on-block : (k : ℕ) (ws : List Write) (i : ℕ) (w : Write) → block_of (get_or (on_block k ws) i (write_step k w)) ≡ k
on-block k ws i w = ap block_of (get_or-map (write_step k) ws i w)

pub marks_inside : {N : ℕ} (s k : ℕ) (ws : List Write) (w : Write) → is_count N ≡ true → k < N → ((i : ℕ) → i < length ws → (get_or ws i w).at < s) → (i : ℕ)
    → i < length (on_block k ws)
    → within N s (get_or (on_block k ws) i (write_step k w)) ≡ true
marks_inside {N} s k ws w c h o i q =
    ap (within N s) (get_or-map (write_step k) ws i w)
    ∙ inside-yes s (write_step k (get_or ws i w)) c h (o i (omega (arith, length-map ws (write_step k))))

seal-at : (time i : ℕ) → i < mark_writes → (seal_write time i).at < header_len
unfolding writes
seal-at time zero h = omega arith
seal-at time (suc zero) h = omega arith
seal-at time (suc (suc zero)) h = omega arith
seal-at time (suc (suc (suc zero))) h = omega arith
seal-at time (suc (suc (suc (suc zero)))) h = omega arith
seal-at time (suc (suc (suc (suc (suc i))))) h = absurd (omega arith)

pub length-seal : (k time : ℕ) → length (on_block k (seal_writes time)) ≡ mark_writes
unfolding writes
length-seal k time = refl

-- ---- the frame appended

module _ {N : ℕ} (s : ℕ) (home : Rest) (shape : Shape N home s) (places : List ℕ) (j : Job) (bytes : List ℕ) (size : j.size ≡ length bytes)
    (here : home.block < N) (room : home.end + length bytes ≤ s) where
  appends : (a d so z o : ℕ) (u : List ℕ)
      → Runs N home s Append (λ i. job_at home places j (buffer bytes) Append (cursor i a d so z o) u) (λ img. idle places (ending home (home.end + length bytes)))
      (on_block home.block (writes home.end bytes)) (program home.block 0 0)
  unfolding advance
  appends a d so z o u =
      record {
        phase = λ i. refl;
        stands = λ i. refl;
        acts = λ i h. buffered home.block home.end bytes i h;
        inside = step-inside s home.block home.end bytes shape.count here room;
        goes = λ i img h.
            onward-on Append j.size (job_at home places j (buffer bytes) Append (cursor i a d so z o) u) (idle places (ending home (home.end + j.size)))
            (omega (arith, length-steps home.block home.end bytes));
        ends = λ i img h.
            onward-off Append j.size (job_at home places j (buffer bytes) Append (cursor i a d so z o) u) (idle places (ending home (home.end + j.size)))
            (omega (arith, length-steps home.block home.end bytes)) ∙ ap (λ (n : ℕ). idle places (ending home (home.end + n))) size;
      }

  pub follows_append : (st : Stage) (c : Cursor) (u img : List ℕ) → length img ≡ suc home.last
      → Follows N (exec N) img (enter_append (job_at home places j (buffer bytes) st c u)) (on_block home.block (writes home.end bytes))
      (idle places (ending home (home.end + length bytes)))
  unfolding enter_append
  follows_append st c u img q =
      let r : Record = job_at home places j (buffer bytes) st c u in
      let steps : List Step = on_block home.block (writes home.end bytes) in
      let done : Record = idle places (ending home (home.end + length bytes)) in
      on_test (ltb 0 j.size)
      (λ t.
      subst (λ (b : Bool). Follows N (exec N) img (cond b (enter Append r) (idle places home)) steps done) (sym t)
      (subst (λ (xs : List Step). Follows N (exec N) img (enter Append r) xs done) (append-nil steps)
      (follows_stage home s Append (λ i. job_at home places j (buffer bytes) Append (cursor i c.at c.id c.source c.size c.off) u)
      (λ i. done) steps
      (program home.block 0 0) shape (appends c.at c.id c.source c.size c.off u) [] done (length bytes - 1) img
      (omega (arith, length-steps home.block home.end bytes, ltb-true 0 j.size t)) q refl)))
      (λ t.
      let n : length bytes ≡ 0 = omega (arith, ltb-false 0 j.size t) in
      let z : home.end ≡ home.end + length bytes = omega arith in
      subst (λ (b : Bool). Follows N (exec N) img (cond b (enter Append r) (idle places home)) steps done) (sym t)
      (subst (λ (xs : List Step). Follows N (exec N) img (idle places home) xs done) (sym (no_steps home.block home.end bytes n))
      (ap (λ (n : ℕ). idle places (ending home n)) z)))

-- ---- the old block erased, the new one sealed

module _ {N : ℕ} (s : ℕ) (home : Rest) (shape : Shape N home s) (places : List ℕ) (j : Job) (bytes : List ℕ) (size : j.size ≡ length bytes)
    (here : home.block < N) (there : j.target < N) where
  follows_drop : (st : Stage) (i a d so z o : ℕ) (u img : List ℕ) → length img ≡ suc home.last → 0 < s → a + length bytes ≤ s
      → Follows N (exec N) img (enter_drop (job_at home places j (buffer bytes) st (cursor i a d so z o) u))
      (dropped j home.block ++ on_block j.target (writes a bytes))
      (idle places (landing home j.edition j.target (a + length bytes)))
  unfolding enter_drop advance
  follows_drop st i a d so z o u img q p room =
      let r : Record = job_at home places j (buffer bytes) st (cursor i a d so z o) u in
      let steps : List Step = on_block j.target (writes a bytes) in
      let done : Record = idle places (landing home j.edition j.target (a + length bytes)) in
      let app : (s' : Stage) (c' : Cursor) (img' : List ℕ) → length img' ≡ suc home.last
      → Follows N (exec N) img' (enter_append (job_at (landing home j.edition j.target a) places j (buffer bytes) s' c' u)) steps done =
      λ s' c' img' q'. follows_append s (landing home j.edition j.target a) (shape-landing j.edition j.target a shape)
      places j bytes size there room s' c' u img' q' in
      on_test j.drops
      (λ t.
      subst (λ (b : Bool). Follows N (exec N) img (cond b (enter Drop r) (enter_append (landed r))) (cond b (erase home.block ∷ []) [] ++ steps) done) (sym t)
      (follows-step N s Drop img (enter Drop r)
      (enter_append (job_at (landing home j.edition j.target a) places j (buffer bytes) Drop (cursor 0 a d so z o) u))
      (erase home.block) steps done
      (ap (size_in N) q ∙ shape.size) refl (same-shape (length img) (enter Drop r) q (sym shape.blocks)) refl
      (inside-yes s (erase home.block) shape.count here p) refl
      (app Drop (cursor 0 a d so z o) (apply s (erase home.block) img) (length-apply s (erase home.block) img ∙ q))))
      (λ t.
      subst (λ (b : Bool). Follows N (exec N) img (cond b (enter Drop r) (enter_append (landed r))) (cond b (erase home.block ∷ []) [] ++ steps) done) (sym t)
      (app st (cursor i a d so z o) img q))

  seals : (a d so z o : ℕ) (u : List ℕ) → header_len ≤ s
      → Runs N home s Seal (λ i. job_at home places j (buffer bytes) Seal (cursor i a d so z o) u)
      (λ img. enter_drop (job_at home places j (buffer bytes) Seal (cursor 4 a d so z o) u)) (on_block j.target (seal_writes j.time))
      (write_step j.target (write state_at valid_data))
  unfolding advance
  seals a d so z o u p =
      let r : ℕ → Record = λ i. job_at home places j (buffer bytes) Seal (cursor i a d so z o) u in
      record {
        phase = λ i. refl;
        stands = λ i. refl;
        acts = λ i h. sym (get_or-map (write_step j.target) (seal_writes j.time) i (write state_at valid_data));
        inside = marks_inside s j.target (seal_writes j.time) (write state_at valid_data) shape.count there
            (λ i h. omega (
              arith,
              seal-at j.time i (omega
                  (arith, length-map (seal_writes j.time) (write_step j.target), length-seal j.target j.time)),
            ));
        goes = λ i img h. onward-on Seal mark_writes (r i) (enter_drop (r i)) (omega (arith, length-seal j.target j.time));
        ends = λ i img h.
            let n : i ≡ 4 = omega (arith, length-seal j.target j.time) in
            onward-off Seal mark_writes (r i) (enter_drop (r i)) (omega arith) ∙ ap (λ (m : ℕ). enter_drop (r m)) n;
      }

  pub follows_seal : (st : Stage) (i a d so z o : ℕ) (u img : List ℕ) → length img ≡ suc home.last → header_len ≤ s → a + length bytes ≤ s
      → Follows N (exec N) img (enter Seal (job_at home places j (buffer bytes) st (cursor i a d so z o) u)) (sealing j home.block bytes a)
      (idle places (landing home j.edition j.target (a + length bytes)))
  follows_seal st i a d so z o u img q p room =
      let steps : List Step = on_block j.target (seal_writes j.time) in
      follows_stage home s Seal (λ n. job_at home places j (buffer bytes) Seal (cursor n a d so z o) u)
      (λ img'. enter_drop (job_at home places j (buffer bytes) Seal (cursor 4 a d so z o) u)) steps (write_step j.target (write state_at valid_data)) shape
      (seals a d so z o u p) (dropped j home.block ++ on_block j.target (writes a bytes))
      (idle places (landing home j.edition j.target (a + length bytes))) 4 img
      (sym (length-seal j.target j.time)) q
      (follows_drop Seal 4 a d so z o u (apply_all s steps img) (length-all-steps s steps img ∙ q) (omega arith) room)
