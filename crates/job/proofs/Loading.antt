-- The next frame to copy: where it lies, its bytes in the buffer, and the record that has it.
use mathlib.Core.Path.{◌≡◌, refl, sym, ap, ap₂, ◌∙◌}
use mathlib.Core.Bool.{Bool, true, false, ◌&&◌, cond}
use lib.Dec.{eqb}
use mathlib.Core.List.{List}
use Prim.Native.Nat.{ℕ, ◌+◌, ◌-◌, ◌≤◌}
use native.Mathlib.Omega.{arith}
use lib.ListN.{length, take, drop, get_or, length-take, length-drop}
use lib.Seq.{take_all}
use Rattle.flash.specs.Flash.{block, size_of}
use Rattle.frame.specs.declared.Edition.{Edition}
use Rattle.frame.specs.declared.Host.{Host}
use Rattle.frame.specs.Frame.{Frame, kind_at, body_at, value_max, edition_by, frame_len, encode, buffer}
use Rattle.frame.specs.Code.{frame_of, head_len, value_len_of}
use Rattle.frame.proofs.Heads.{len_of}
use Rattle.fetch.specs.declared.Fetch.{Fetch}
use Rattle.std.specs.Prelude.{Option, Some, None}
use Rattle.journal.specs.Index.{next_load_of, place_copied}
use Rattle.fetch.specs.Fetch.{load_in, load_of}
use Rattle.board.specs.declared.Stage.TheVariants.{Copy, Seal}
use Rattle.board.specs.declared.Record.{Record}
use Rattle.board.specs.Record.{cursor, reads_in}
use Rattle.board.specs.Step.{enter, loaded, enter_copy}
use Rattle.board.proofs.Outcomes.{next_for, copy_loads, copy-ends}
use Rattle.job.specs.declared.records.Numbers.{Numbers}
use Rattle.job.specs.Code.{assemble, staged, going, LeadsTo, ends_by, Appends}

-- ---- a frame by its head

-- the host whose commit it is, and the two bytes themselves
committed : (t : Bool) (k o : ℕ) (g : Frame) (p : List ℕ)
    → place_copied (ends_by (cond t (Some (record { 0 = k })) None)) o g p ≡ place_copied (λ h. t && eqb k h.0) o g p
committed true k o g p = refl
committed false k o g p = refl

pub load-leaves : (b : List ℕ) (x : Fetch) (n : Numbers) → x.value + value_len_of x.head ≤ length b → value_len_of x.head ≤ value_max →
    (ed : Edition) (e z : ℕ) (bytes : List ℕ) → ed ≡ edition_by n.job.edition
    → e ≡ x.value + value_len_of x.head → bytes ≡ buffer (encode ed (frame_of x.head (take value_max (take (e - x.value) (drop x.value b)))))
    → z ≡ head_len ed x.head → (c : Option Host) (p p' u f : List ℕ) → Appends c f
    → ((v : List ℕ) → p' ≡ place_copied (ends_by c) n.cursor.at (frame_of x.head v) p)
    → LeadsTo p' bytes f (going Copy (cursor 0 n.cursor.at x.id x.source z 0) n) (loaded (assemble n p u f) (load_in b x))
load-leaves b x n fits small ed e z bytes is end made size c p p' u f a q =
    let k : e - x.value ≡ value_len_of x.head = omega arith in
    let v : List ℕ = take (value_len_of x.head) (drop x.value b) in
    let l : length v ≡ value_len_of x.head = simp (length-take, length-drop) (omega arith) in
    let w : bytes ≡ buffer (encode (edition_by n.job.edition) (frame_of x.head v)) =
    made ∙ ap₂ (λ (d : Edition) (i : ℕ). buffer (encode d (frame_of x.head (take value_max (take i (drop x.value b)))))) is k
    ∙ ap (λ (y : List ℕ). buffer (encode (edition_by n.job.edition) (frame_of x.head y))) (take_all value_max v (omega arith)) in
    let copying : ℕ → List ℕ → List ℕ → Record =
    λ i t y. assemble (staged Copy (cursor 0 n.cursor.at x.id x.source i 0) n) t y f in
    record {
      answers = refl;
      goes = λ e. refl;
      gives = ap₂ (λ (i : ℕ) (y : List ℕ). copying i p' y)
          (size ∙ ap (λ (d : Edition). head_len d x.head) is ∙ len_of (edition_by n.job.edition) x.head v l) w
          ∙ ap (λ (t : List ℕ). copying (frame_len (edition_by n.job.edition) (frame_of x.head v)) t
          (buffer (encode (edition_by n.job.edition) (frame_of x.head v))))
          (q v ∙ ap (λ (i : Option Host). place_copied (ends_by i) n.cursor.at (frame_of x.head v) p) a
          ∙ committed (eqb (get_or f kind_at 0) 3) (get_or f body_at 0) n.cursor.at (frame_of x.head v) p);
    }

-- ---- what was found is what the record has next

module _ (N : ℕ) (img : List ℕ) (r : Record) (b : List ℕ) (same : b ≡ block (size_of N img) r.rest.block img) (ed : Edition)
    (is : ed ≡ reads_in r) (x : Option Fetch)
    (found : load_of b x ≡ next_load_of ed b r.rest.end r.places r.job.since r.cursor.id r.cursor.source) where
  next_is : next_for N img r ≡ load_of b x
  next_is =
      ap₂ (λ (d : Edition) (y : List ℕ). next_load_of d y r.rest.end r.places r.job.since r.cursor.id r.cursor.source) (sym is) (sym same)
      ∙ sym found

  pub frame_found : (y : Fetch) → x ≡ Some y → loaded r (load_in b y) ≡ enter_copy N img r
  frame_found y e = sym (copy_loads N img r (load_in b y) (next_is ∙ ap (load_of b) e))

  pub none_found : x ≡ None → enter Seal r ≡ enter_copy N img r
  none_found e = sym (copy-ends N img r (next_is ∙ ap (load_of b) e))
