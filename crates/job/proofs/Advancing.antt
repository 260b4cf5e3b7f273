-- What a step leaves, stage by stage; a step refused, and a step done.
use mathlib.Core.Path.{◌≡◌, refl, sym, ap, subst, ◌∙◌}
use mathlib.Core.List.{List, []}
use mathlib.Core.Logic.{◌⊎◌, inl, inr}
use Rattle.std.proofs.Math.Option as maybe
use Rattle.std.proofs.Math.Option.{none, some}
use Rattle.std.specs.Prelude.{Option, Some, None}
use mathlib.Core.Bool.{Bool, true, false, cond, ◌&&◌}
use Prim.Native.Nat.{ℕ, suc, ◌≤◌, ◌<◌}
use native.Mathlib.Omega.{arith}
use lib.Dec.{ltb}
use lib.ListN.{length}
use Rattle.flash.specs.Flash.{Step, apply, size_in, size_of, within, offset_of}
use Rattle.flash.proofs.Cases.{on_test, and_both, and_no-left, and_no_right}
use Rattle.journal.specs.Block.{mark_writes}
use Rattle.journal.specs.Index.{Load}
use Rattle.wire.specs.declared.Answer.{Answer}
use Rattle.wire.specs.declared.Answer.TheVariants.{Done, More, Refused}
use Rattle.wire.specs.declared.Refusal.TheVariants as refusal
use Rattle.board.specs.declared.Cursor.{Cursor}
use Rattle.board.specs.declared.Stage.{Stage}
use Rattle.board.specs.declared.Stage.TheVariants.{Wipe, Open, Copy, Seal, Drop, Append, Close}
use Rattle.board.specs.declared.Phase.{Phase}
use Rattle.board.specs.declared.Phase.TheVariants.{Unmounted, Idle, Busy}
use Rattle.board.specs.declared.Record.{Record}
use Rattle.board.specs.Record.{cursor, in_stage, Out, out, refuse, answer_of}
use Rattle.board.specs.Step.{load_or, enter_copy, action, next_index, next_byte, past_frame, onward, advance, same_shape, stepped, step_busy}
use Rattle.board.specs.Drive.{made_in_of}
use Rattle.board.proofs.Outcomes.{next_for}
use Rattle.job.specs.declared.records.Numbers.{Numbers}
use Rattle.job.specs.declared.records.Stepped.{Stepped}
use Rattle.job.specs.declared.moves.Moved.{Moved}
use Rattle.job.specs.declared.moves.Moved.TheVariants.{Still, Due}
use Rattle.job.specs.Code.{assemble, staged, going, staying, leaves, LeadsTo, takes, did, offset_for, Steps}
use Rattle.job.specs.Code.{reached, answered, ended_at, Moves, Loads, in_hand_in, in_hand, HandsAt, HandsIn, Hands, action_by}
use Rattle.job.proofs.Acting.{in_parts, size_low}
use Rattle.job.proofs.Entering.{when_true, when_false, going_leaves}

-- a frame loaded or the block sealed, the job goes on
load-more : (r : Record) (x : maybe.Option Load) → More ≡ answer_of (load_or r x)
load-more r (some y) = refl
load-more r none = refl

copy_more : (N : ℕ) (img : List ℕ) (r : Record) → More ≡ answer_of (enter_copy N img r)
unfolding enter_copy
copy_more N img r = load-more r (next_for N img r)

-- ---- on in a stage, or out of it

module _ (p u f : List ℕ) (st : Stage) (count : ℕ) (n : Numbers) where
  on_leaves : (after : Record) → ltb (suc n.cursor.index) count ≡ true
      → LeadsTo p u f (going st (next_index n.cursor) n) (onward st count (assemble n p u f) after)
  on_leaves after e =
      subst (LeadsTo p u f (going st (next_index n.cursor) n))
      (when_true (ltb (suc n.cursor.index) count) (in_stage st (next_index n.cursor) (assemble n p u f)) after e)
      (going_leaves p u f st (next_index n.cursor) n)

  off_leaves : (s : Stepped) (after : Record) → ltb (suc n.cursor.index) count ≡ false
      → LeadsTo p u f s after
      → LeadsTo p u f s (onward st count (assemble n p u f) after)
  off_leaves s after e l =
      subst (LeadsTo p u f s)
      (when_false (ltb (suc n.cursor.index) count) (in_stage st (next_index n.cursor) (assemble n p u f)) after e) l

  -- the cursor at the stage's next step
  abbrev pub next_if : Option Cursor
  next_if = cond (ltb (suc n.cursor.index) count) (Some (next_index n.cursor)) None

  -- there it goes on
  pub some_leaves : (c : Cursor) (s : Stepped) (after : Record) → Some c ≡ next_if → s ≡ going st c n
      → LeadsTo p u f s (onward st count (assemble n p u f) after)
  some_leaves c s after e g =
      on_test (ltb (suc n.cursor.index) count)
      (λ t.
      let h : Some c ≡ Some (next_index n.cursor) = rw t at e in
      let q : c ≡ next_index n.cursor = cc in
      subst (λ (y : Stepped). LeadsTo p u f y (onward st count (assemble n p u f) after)) (sym (g ∙ ap (λ (y : Cursor). going st y n) q)) (on_leaves after t))
      (λ t. let h : Some c ≡ None = rw t at e in cc)

  -- past its last step comes what follows
  pub none_leaves : (s x : Stepped) (after : Record) → None ≡ next_if → s ≡ x → LeadsTo p u f x after
      → LeadsTo p u f s (onward st count (assemble n p u f) after)
  none_leaves s x after e g l =
      on_test (ltb (suc n.cursor.index) count)
      (λ t. let h : None ≡ Some (next_index n.cursor) = rw t at e in cc)
      (λ t. subst (λ (y : Stepped). LeadsTo p u f y (onward st count (assemble n p u f) after)) (sym g) (off_leaves x after t l))

module _ (N : ℕ) (i p u f : List ℕ) where
  pub still_moves : (s : Stepped) (r : Record) → LeadsTo p u f s r → Moves N i p u f (Still s) r
  still_moves s r l = record { answers = l.answers; gives = l.gives; goes = l.goes }

  -- the next frame is due
  due_moves : (n : Numbers) → Moves N i p u f (Due (staying More n)) (enter_copy N i (assemble n p u f))
  due_moves n = record { answers = copy_more N i (assemble n p u f); gives = refl; goes = λ e. refl }

  -- the block is opened: the first frame is due
  pub none_moves : (n : Numbers) (s : Stepped) → None ≡ next_if p u f Open mark_writes n → s ≡ staying More n
      → Moves N i p u f (Due s) (advance N Open i (assemble n p u f))
  unfolding advance
  none_moves n s e g =
      on_test (ltb (suc n.cursor.index) mark_writes)
      (λ t. let h : None ≡ Some (next_index n.cursor) = rw t at e in cc)
      (λ t. subst (Moves N i p u f (Due s))
      (when_false (ltb (suc n.cursor.index) mark_writes) (in_stage Open (next_index n.cursor) (assemble n p u f)) (enter_copy N i (assemble n p u f)) t)
      (subst (λ (y : Stepped). Moves N i p u f (Due y) (enter_copy N i (assemble n p u f))) (sym g) (due_moves n)))

-- ---- a byte copied

module _ (N : ℕ) (i p u f : List ℕ) (n : Numbers) where
  abbrev was : Record
  was = assemble n p u f

  -- the numbers by whether the frame has a byte more
  abbrev past : Bool → Numbers
  past b =
      staged Copy (cursor n.cursor.index (suc n.cursor.at) n.cursor.id n.cursor.source n.cursor.size
      (cond b (suc n.cursor.off) 0)) n

  -- where a byte leaves the job: a frame that is past its last byte is followed by the next one
  abbrev byte_moved : Bool → Moved
  byte_moved true = Still (staying More (past true))
  byte_moved false = Due (staying More (past false))

  byte_moves : (b : Bool) → Moves N i p u f (byte_moved b)
      (cond b (in_stage Copy (next_byte n.cursor) was) (enter_copy N i (in_stage Copy (past_frame n.cursor) was)))
  byte_moves true = record { answers = refl; gives = refl; goes = λ e. refl }
  byte_moves false = due_moves N i p u f (past false)

  pub copy_moves : (b : Bool) → ltb (suc n.cursor.off) n.cursor.size ≡ b → (m : Moved) → m ≡ byte_moved b
      → Moves N i p u f m (advance N Copy i was)
  unfolding advance
  copy_moves b e m is = rw (e, is) (byte_moves b)

-- ---- a step's place, and the numbers that are counted up

below : (x : Step) (N len : ℕ) → within N (size_in N len) x ≡ true → len ≤ 65536 → offset_of x < 32768
below x N len w h = let t = in_parts N (size_in N len) x w in omega (arith, t.2, size_low N len t.0)

pub offset_low : (st : Stage) (N len : ℕ) (n : Numbers) (b : ℕ) → within N (size_in N len) (action_by st n b) ≡ true → len ≤ 65536
    → offset_for st n < 32768
offset_low Wipe N len n b w h = omega arith
offset_low Open N len n b w h = omega arith
offset_low Copy N len n b w h = below (action_by Copy n b) N len w h
offset_low Seal N len n b w h = omega arith
offset_low Drop N len n b w h = omega arith
offset_low Append N len n b w h = below (action_by Append n b) N len w h
offset_low Close N len n b w h = omega arith

-- by the byte in hand it is the record's step
pub by_hand : (st : Stage) (n : Numbers) (b : ℕ) (p u f : List ℕ) → HandsAt st n b u f → action_by st n b ≡ action st (assemble n p u f)
by_hand Wipe n b p u f e = refl
by_hand Open n b p u f e = refl
by_hand Copy n b p u f e = ap (action_by Copy n) e
by_hand Seal n b p u f e = refl
by_hand Drop n b p u f e = refl
by_hand Append n b p u f e = ap (action_by Append n) e
by_hand Close n b p u f e = refl

-- ---- a step call in a job

module _ (N : ℕ) (p u f : List ℕ) (st : Stage) (img : List ℕ) (n : Numbers) where
  abbrev before : Record
  before = assemble n p u f

  abbrev test : Bool
  test = same_shape N (length img) before && within N (size_of N img) (action st before)

  abbrev after : List ℕ
  after = apply (size_of N img) (action st before) img

  refused : test ≡ false → Steps (Refused refusal.Stale) false before img (step_busy N st img before)
  unfolding step_busy
  refused e =
      subst (Steps (Refused refusal.Stale) false before img)
      (when_false test (stepped after (advance N st after before)) (refuse refusal.Stale img before []) e)
      (record { image = refl; answers = refl; gives = refl; goes = λ e. refl })

  pub other_shape : same_shape N (length img) before ≡ false → Steps (Refused refusal.Stale) false before img (step_busy N st img before)
  other_shape e = refused (and_no-left (same_shape N (length img) before) (within N (size_of N img) (action st before)) e)

  pub other_place : (x : Step) → x ≡ action st before → within N (size_of N img) x ≡ false → (img' : List ℕ) → img' ≡ did N x img
      → Steps (Refused refusal.Stale) false before img' (step_busy N st img before)
  unfolding did
  other_place x e w img' d =
      let k : img' ≡ img = d ∙ sym (when_false (within N (size_of N img) x) (apply (size_of N img) x img) img w) in
      subst (λ (i : List ℕ). Steps (Refused refusal.Stale) false before i (step_busy N st img before)) (sym k)
      (refused (and_no_right (same_shape N (length img) before) (within N (size_of N img) (action st before))
      (sym (ap (within N (size_of N img)) e) ∙ w)))

  pub step_done : (x : Step) → x ≡ action st before → same_shape N (length img) before ≡ true → within N (size_of N img) x ≡ true → (img' : List ℕ)
      → img' ≡ did N x img
      → (m : Moved) → Moves N img' p u f m (advance N st img' before)
      → Steps (answered m) (ended_at m) (reached N m img' p u f) img' (step_busy N st img before)
  unfolding step_busy did
  step_done x e q w img' d m l =
      let k : img' ≡ after = d ∙ sym (when_true (within N (size_of N img) x) (apply (size_of N img) x img) img w) ∙ ap
      (λ (y : Step). apply (size_of N img) y img) e in
      let t : test ≡ true = and_both (same_shape N (length img) before) (within N (size_of N img) (action st before)) q
      (sym (ap (within N (size_of N img)) e) ∙ w) in
      subst (Steps (answered m) (ended_at m) (reached N m img' p u f) img')
      (when_true test (stepped after (advance N st after before)) (refuse refusal.Stale img before []) t)
      (subst (λ (i : List ℕ). Steps (answered m) (ended_at m) (reached N m img' p u f) img' (stepped i (advance N st i before))) k
      (record { image = refl; answers = l.answers; gives = l.gives; goes = l.goes }))

-- ---- a step made by the caller

-- the place does not go by the byte
pub same_place : (st : Stage) (N s : ℕ) (n : Numbers) (b : ℕ) (p u f : List ℕ)
    → within N s (action_by st n b) ≡ within N s (action st (assemble n p u f))
same_place Wipe N s n b p u f = refl
same_place Open N s n b p u f = refl
same_place Copy N s n b p u f = refl
same_place Seal N s n b p u f = refl
same_place Drop N s n b p u f = refl
same_place Append N s n b p u f = refl
same_place Close N s n b p u f = refl

module _ (N : ℕ) (img p u f : List ℕ) (st : Stage) (n : Numbers) (len b : ℕ) (same : length img ≡ len) where
  abbrev standing : Record
  standing = assemble n p u f

  abbrev taken : Bool
  taken = same_shape N (length img) standing && within N (size_of N img) (action st standing)

  is_taken : takes N len n.rest (action_by st n b) ≡ taken
  is_taken =
      ap (λ (x : Bool). same_shape N len standing && x) (same_place st N (size_in N len) n b p u f)
      ∙ ap (λ (l : ℕ). same_shape N l standing && within N (size_in N l) (action st standing)) (sym same)

  pub made_done : takes N len n.rest (action_by st n b) ≡ true
      → (m : Moved) → Moves N img p u f m (advance N st img standing)
      → Steps (answered m) (ended_at m) (reached N m img p u f) img (made_in_of N (Busy st) img standing)
  made_done e m l =
      subst (Steps (answered m) (ended_at m) (reached N m img p u f) img)
      (when_true taken (stepped img (advance N st img standing)) (refuse refusal.Stale img standing []) (sym is_taken ∙ e))
      (record { image = refl; answers = l.answers; gives = l.gives; goes = l.goes })

  pub made_stale : takes N len n.rest (action_by st n b) ≡ false
      → Steps (Refused refusal.Stale) false standing img (made_in_of N (Busy st) img standing)
  made_stale e =
      subst (Steps (Refused refusal.Stale) false standing img)
      (when_false taken (stepped img (advance N st img standing)) (refuse refusal.Stale img standing []) (sym is_taken ∙ e))
      (record { image = refl; answers = refl; gives = refl; goes = λ x. refl })

-- ---- a call on any record: the phase as a variable of its own

module _ (call : Phase → Out) (ph x : Phase) (e : ph ≡ x) where
  pub in_phase : (a : Answer) (b : Bool) (r : Record) (img : List ℕ) → Steps a b r img (call x) → Steps a b r img (call ph)
  in_phase a b r img s = subst (λ (y : Phase). Steps a b r img (call y)) (sym e) s

pub stays : (img : List ℕ) (r : Record) → Steps Done false r img (out Done img r [])
stays img r = record { image = refl; answers = refl; gives = refl; goes = λ e. refl }

-- a record in no job stays as it is
module _ (call : Phase → Out) (ph : Phase) (img : List ℕ) (r : Record) where
  pub stays_in : (ph ≡ Unmounted) ⊎ (ph ≡ Idle) → (call Unmounted ≡ out Done img r []) × (call Idle ≡ out Done img r [])
      → Steps Done false r img (call ph)
  stays_in (inl e) is = rw (e, is.0) (stays img r)
  stays_in (inr e) is = rw (e, is.1) (stays img r)

pub busy_hand : (n : Numbers) (ph : Phase) (st : Stage) (b : ℕ) (u f : List ℕ) → ph ≡ Busy st → HandsIn ph n b u f → HandsAt st n b u f
busy_hand n ph st b u f e h = subst (λ (x : Phase). HandsIn x n b u f) e h

-- the byte that was read from the arrays is one
hand_in : (ph : Phase) (n : Numbers) (b : ℕ) (u f : List ℕ) → b ≡ in_hand_in ph n u f → HandsIn ph n b u f
hand_in Unmounted n b u f e = tt
hand_in Idle n b u f e = tt
hand_in (Busy Wipe) n b u f e = tt
hand_in (Busy Open) n b u f e = tt
hand_in (Busy Copy) n b u f e = e
hand_in (Busy Seal) n b u f e = tt
hand_in (Busy Drop) n b u f e = tt
hand_in (Busy Append) n b u f e = e
hand_in (Busy Close) n b u f e = tt

pub hands : (n : Numbers) (b : ℕ) (u f : List ℕ) → b ≡ in_hand n u f → Hands n b u f
hands n b u f e = hand_in n.phase n b u f e

-- ---- the frame that is due is loaded

module _ (N : ℕ) (p u f img : List ℕ) (o : Out) where
  pub load_steps : (m : Moved) → Steps (answered m) (ended_at m) (reached N m img p u f) img o
      → (p' u' : List ℕ) (s : Stepped) → Loads N img p u f m s p' u' → Steps s.answer s.ended (leaves s p' u' f) img o
  load_steps (Still y) x p' u' s l = rw ((l.none y refl).0, (l.none y refl).1, (l.none y refl).2) x
  load_steps (Due y) x p' u' s l =
      let d = l.due y refl in
      record {
        image = x.image;
        answers = d.answers ∙ sym (copy_more N img (assemble y.next p u f)) ∙ x.answers;
        gives = d.gives ∙ x.gives;
        goes = d.goes;
      }
