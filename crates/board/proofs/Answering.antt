-- Answers and what they tell: numbers, lines of the table, the record, the whole outcome.
use mathlib.Core.Path.{◌≡◌, refl, sym, ap, ap₂, subst, ◌∙◌}
use mathlib.Core.List.{List, [], ◌∷◌}
use mathlib.Core.Logic.{inl, inr}
use mathlib.Core.Option.{Option, none, some}
use Prim.Native.Nat.{ℕ, suc, ◌+◌, ◌*◌}
use native.Mathlib.Omega.{arith}
use lib.ListN.{length, get_or}
use Rattle.frame.specs.declared.Fault.{Fault}
use Rattle.frame.specs.declared.ObjectId.{ObjectId}
use Rattle.frame.specs.declared.Edition.{Edition}
use Rattle.frame.specs.Frame.{Frame}
use Rattle.journal.specs.Replay.{lookup, replay}
use Rattle.journal.specs.Block.{Journal}
use Rattle.journal.specs.Laws.{TakenFrom}
use Rattle.journal.proofs.Sources.{place-exact}
use Rattle.wire.specs.declared.Answer.{Answer}
use Rattle.wire.specs.declared.Answer.TheVariants.{Done, More, Refused}
use Rattle.wire.specs.declared.Refusal.{Refusal}
use Rattle.wire.specs.declared.Refusal.TheVariants as refusal
use Rattle.wire.specs.declared.Request.{Request}
use Rattle.wire.specs.declared.Request.TheVariants.{Put, Delete, Commit, Abort, Read, Log, Convert}
use Rattle.wire.specs.Answer.{number_of}
use Rattle.board.specs.declared.Phase.{Phase}
use Rattle.board.specs.declared.Phase.TheVariants.{Unmounted, Idle, Busy}
use Rattle.board.specs.declared.Record.{Record}
use Rattle.board.specs.Record.{Stretch, Out, answer_in, answer_of}
use Rattle.board.specs.Demand2.{Accepted}
use Rattle.board.specs.Queue.{Asking, size_for}
use Rattle.board.specs.Table.{Line, Exactly, InJob}
use Rattle.board.specs.Promise.{Tells, Stands, HandsBack}

-- ---- numbers

-- the answer of a number; 3 has many
abbrev numbered : Option ℕ → Answer
numbered none = More
numbered (some n) =
    get_or
    (Done ∷ Refused refusal.Malformed ∷ Refused refusal.NoStore ∷ Done ∷ Refused refusal.ImageLength ∷ Refused refusal.Busy
    ∷ Refused refusal.Worn ∷ Refused refusal.NoRoom ∷ Refused refusal.NoObject ∷ Refused refusal.ShortReply ∷ Refused refusal.HostRange
    ∷ Refused refusal.Stale ∷ Refused refusal.HostFull ∷ Done ∷ Done ∷ Done ∷ Refused refusal.Pending ∷ [])
    n Done

-- an answer is 3 with what it names, or its number's
data Kind (a : Answer) : Type 0 where
  three : (k : ℕ) (e : Fault) → a ≡ Refused (refusal.Foreign k e) → Kind a
  plain : numbered (number_of a) ≡ a → (number_of a ≡ some 3 → ⊥) → Kind a

not_three : (n : ℕ) → (n ≡ 3 → ⊥) → ◌≡◌ {A = Option ℕ} (some n) (some 3) → ⊥
not_three n h e = let w : n ≡ 3 = cc in h w

kind : (a : Answer) → Kind a
kind Done = plain refl (not_three 0 (omega arith))
kind More = plain refl (λ e. let w : ◌≡◌ {A = ℕ} 0 1 = cc in omega arith)
kind (Refused refusal.Malformed) = plain refl (not_three 1 (omega arith))
kind (Refused refusal.NoStore) = plain refl (not_three 2 (omega arith))
kind (Refused (refusal.Foreign k e)) = three k e refl
kind (Refused refusal.ImageLength) = plain refl (not_three 4 (omega arith))
kind (Refused refusal.Busy) = plain refl (not_three 5 (omega arith))
kind (Refused refusal.Worn) = plain refl (not_three 6 (omega arith))
kind (Refused refusal.NoRoom) = plain refl (not_three 7 (omega arith))
kind (Refused refusal.NoObject) = plain refl (not_three 8 (omega arith))
kind (Refused refusal.ShortReply) = plain refl (not_three 9 (omega arith))
kind (Refused refusal.HostRange) = plain refl (not_three 10 (omega arith))
kind (Refused refusal.Stale) = plain refl (not_three 11 (omega arith))
kind (Refused refusal.HostFull) = plain refl (not_three 12 (omega arith))
kind (Refused refusal.Pending) = plain refl (not_three 16 (omega arith))

-- what both name where both are 3
abbrev pub SameNamed : Answer → Answer → Type 0
SameNamed a b = (k j : ℕ) (e f : Fault) → a ≡ Refused (refusal.Foreign k e) → b ≡ Refused (refusal.Foreign j f) → (k ≡ j) × (e ≡ f)

-- document 01's numbers, and what 3 names, tell the answers apart
pub number_injective : (a b : Answer) → SameNamed a b → number_of a ≡ number_of b → a ≡ b
number_injective a b s e = go (kind a) (kind b)
  where
    go : Kind a → Kind b → a ≡ b
    go (three k f p) (three j g q) =
        let w : (k ≡ j) × (f ≡ g) = s k j f g p q in p ∙ ap₂ (λ (x : ℕ) (y : Fault). Refused (refusal.Foreign x y)) w.0 w.1 ∙ sym q
    go (three k f p) (plain q n) = absurd (n (sym e ∙ ap number_of p))
    go (plain p n) (three j g q) = absurd (n (e ∙ ap number_of q))
    go (plain p n) (plain q m) = sym p ∙ ap numbered e ∙ q

pub number-done : (a : Answer) → number_of a ≡ some 0 → a ≡ Done
number-done a e = number_injective a Done (λ k j f g p q. let w : ◌≡◌ {A = ℕ} 0 1 = cc in absurd (omega arith)) e

-- any refusal but 3
pub number-refused : (a : Answer) (n : Refusal) (k : ℕ) → number_of (Refused n) ≡ some k → (k ≡ 3 → ⊥) → number_of a ≡ some k → a ≡ Refused n
number-refused a n k d h e = number_injective a (Refused n) (λ i j f g p q. absurd (not_three k h (sym d ∙ ap number_of q))) (e ∙ sym d)

-- a number above 0 is a refusal's
pub number-accepted : (a : Answer) (k : ℕ) → number_of a ≡ some (suc k) → Accepted a → ⊥
number-accepted Done k e y = let w : ◌≡◌ {A = ℕ} 0 (suc k) = cc in omega arith
number-accepted More k e y = let w : ◌≡◌ {A = ℕ} 0 1 = cc in omega arith
number-accepted (Refused n) k e y = y

-- two numbers of one answer
pub other-number : {P : Type 0} (a : Answer) (i j : ℕ) → (i ≡ j → ⊥) → number_of a ≡ some i → number_of a ≡ some j → P
other-number a i j n e f = let w : some i ≡ some j = sym e ∙ f in let v : i ≡ j = cc in absurd (n v)

-- ---- two answers by the same lines

pub data Both (a b : Answer) : Type 0 where
  both_taken : Accepted a → Accepted b → Both a b
  both_refused : (n : Refusal) → a ≡ Refused n → b ≡ Refused n → Both a b

same_answer : (a b : Answer) → a ≡ b → Both a b
same_answer Done b e = both_taken tt (subst Accepted e tt)
same_answer More b e = both_taken tt (subst Accepted e tt)
same_answer (Refused n) b e = both_refused n refl (sym e)

pub same_lines : (ls : List Line) (a b : Answer) → SameNamed a b → Exactly ls a → Exactly ls b → Both a b
same_lines [] a b s x y = both_taken x y
same_lines (l ∷ ls) a b s (inl (p, x)) (inl (q, y)) = same_answer a b (number_injective a b s (x ∙ sym y))
same_lines (l ∷ ls) a b s (inl (p, x)) (inr (q, y)) = absurd (q p)
same_lines (l ∷ ls) a b s (inr (p, x)) (inl (q, y)) = absurd (p q)
same_lines (l ∷ ls) a b s (inr (p, x)) (inr (q, y)) = same_lines ls a b s x y

-- no line has the number
abbrev pub Without : ℕ → List Line → Type 0
Without k [] = Unit {0}
Without k (l ∷ ls) = (l.number ≡ k → ⊥) × Without k ls

pub not-numbered : (k : ℕ) (ls : List Line) (a : Answer) → Without (suc k) ls → Exactly ls a → number_of a ≡ some (suc k) → ⊥
not-numbered k [] a n x e = number-accepted a k e x
not-numbered k (l ∷ ls) a (h, n) (inl (p, y)) e = let w : some l.number ≡ some (suc k) = sym y ∙ e in let v : l.number ≡ suc k = cc in h v
not-numbered k (l ∷ ls) a (h, n) (inr (p, y)) e = not-numbered k ls a n y e

-- no line is 3
abbrev pub NoThree : List Line → Type 0
NoThree [] = Unit {0}
NoThree (l ∷ ls) = (l.number ≡ 3 → ⊥) × NoThree ls

never-three : (ls : List Line) (a : Answer) → NoThree ls → Exactly ls a → (k : ℕ) (e : Fault) → a ≡ Refused (refusal.Foreign k e) → ⊥
never-three [] a n x k e q = subst Accepted q x
never-three (l ∷ ls) a (h, n) (inl (p, x)) k e q = not_three l.number h (sym x ∙ ap number_of q)
never-three (l ∷ ls) a (h, n) (inr (p, x)) k e q = never-three ls a n x k e q

pub same-numbered : (ls : List Line) (a b : Answer) → NoThree ls → Exactly ls a → Exactly ls b → Both a b
same-numbered ls a b n x y = same_lines ls a b (λ k j e f p q. absurd (never-three ls a n x k e p)) x y

-- ---- the record

pub in_job : (p : Phase) → answer_in p ≡ More → InJob p
in_job Unmounted e = let w : ◌≡◌ {A = ℕ} 0 1 = cc in absurd (omega arith)
in_job Idle e = let w : ◌≡◌ {A = ℕ} 0 1 = cc in absurd (omega arith)
in_job (Busy s) e = tt

job_more : (p : Phase) → InJob p → answer_in p ≡ More
job_more Unmounted j = absurd j
job_more Idle j = absurd j
job_more (Busy s) j = refl

pub told-answer : (o : Out) → Tells o → Accepted o.answer → o.answer ≡ answer_of o.board
told-answer o t a = go o.answer refl a
  where
    go : (b : Answer) → o.answer ≡ b → Accepted b → o.answer ≡ answer_of o.board
    go Done e y = e ∙ sym (ap answer_in (t.done.0 (ap number_of e)))
    go More e y = e ∙ sym (job_more o.board.phase (t.more.0 e))
    go (Refused n) e y = absurd y

-- ---- the outcome

abbrev pub whole : Answer → List ℕ → Record → List ℕ → Stretch → Out
whole a img r reply st = record { answer = a; image = img; board = r; reply = reply; stretch = st }

pub whole_is : (o : Out) {a : Answer} {img : List ℕ} {r : Record} {reply : List ℕ} {st : Stretch} → o.answer ≡ a → o.image ≡ img → o.board ≡ r
    → o.reply ≡ reply → o.stretch ≡ st → o ≡ whole a img r reply st
whole_is o {a} {img} {r} {reply} {st} e i b p s =
    ap₂ (λ (x : Answer) (y : List ℕ). whole x y o.board o.reply o.stretch) e i
    ∙ ap₂ (λ (x : Record) (y : List ℕ). whole a img x y o.stretch) b p ∙ ap (whole a img r reply) s

-- ---- a read's stretch

-- the frames settle where a value stands
some-value : {v w : List ℕ} → some v ≡ some w → v ≡ w
some-value e = cc

taken-value : {ed : Edition} {fs : List Frame} {i : ObjectId} {v : List ℕ} {at : ℕ} → TakenFrom ed fs i v at → lookup i (replay fs).objects ≡ some v
taken-value {fs = fs} {i} {v} y = ap (λ (gs : List Frame). lookup i (replay gs).objects) y.stands ∙ y.taken v

same-stands : (a : Asking) (x : Journal) (i : ObjectId) (st su : Stretch) → Stands a x i st → Stands a x i su → st ≡ su
same-stands a x i st su y z =
    let e : y.value ≡ z.value = some-value (sym (taken-value y.from) ∙ taken-value z.from) in
    let g : TakenFrom x.edition x.frames i z.value y.at = subst (λ (v : List ℕ). TakenFrom x.edition x.frames i v y.at) e y.from in
    let f : y.at ≡ z.at = place-exact.once x.edition x.frames i z.value y.at z.at g z.from in
    y.is ∙ ap₂ (λ (n : ℕ) (v : List ℕ). stretch_at (a.board.rest.block * size_for a + n) (length v)) f e ∙ sym z.is
  where
    stretch_at : ℕ → ℕ → Stretch
    stretch_at a n = record { at = a; size = n }

pub same-stretch : (a : Asking) (x : Journal) (q : Request) (st su : Stretch) → HandsBack a x q st → HandsBack a x q su → st ≡ su
same-stretch a x (Put i) st su e f = e ∙ sym f
same-stretch a x (Delete i) st su e f = e ∙ sym f
same-stretch a x Commit st su e f = e ∙ sym f
same-stretch a x Abort st su e f = e ∙ sym f
same-stretch a x (Read i) st su e f = same-stands a x i st su e f
same-stretch a x (Log p) st su e f = e ∙ sym f
same-stretch a x Convert st su e f = e ∙ sym f
