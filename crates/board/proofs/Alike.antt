-- Two machines between calls, and two outcomes of a call: what it is that they agree.
use mathlib.Core.Path.{◌≡◌, refl, sym, ap, ap₂, subst, subst₂, ◌∙◌}
use mathlib.Core.List.{List, [], ◌∷◌}
use mathlib.Core.Option.{Option, none}
use Prim.Native.Nat.{ℕ}
use native.Mathlib.Omega.{arith}
use Rattle.flash.specs.Bytes.{Bytes}
use Rattle.flash.specs.Flash.{Step}
use Rattle.wire.specs.declared.Answer.{Answer}
use Rattle.wire.specs.declared.Answer.TheVariants.{More}
use Rattle.board.specs.declared.Phase.{Phase}
use Rattle.board.specs.declared.Phase.TheVariants.{Unmounted, Idle, Busy}
use Rattle.board.specs.declared.Record.{Record}
use Rattle.board.specs.Record.{Stretch, Out, answer_in, answer_of}
use Rattle.board.specs.Plan.{Follows}
use Rattle.board.specs.Demand1.{Rests}
use Rattle.board.specs.Promise.{Machine, resting_in, shown_record, shown}
use Rattle.board.proofs.Answering.{whole}

-- ---- two machines between calls: the same record in no job, or the same steps to do and then the same idle record

pub data Alike (N : ℕ) (m n : Machine) (img : List ℕ) (r q : Record) : Type 0 where
  resting : Rests q.phase → r ≡ q → Alike N m n img r q
  working : (x : Step) (xs : List Step) (z : Record) → z.phase ≡ Idle → Follows N m img r (x ∷ xs) z
      → Follows N n img q (x ∷ xs) z → Alike N m n img r q

more-none : (p : Phase) (r : Record) → answer_in p ≡ More → resting_in p r ≡ none
more-none Unmounted r e = let w : ◌≡◌ {A = ℕ} 0 1 = cc in absurd (omega arith)
more-none Idle r e = let w : ◌≡◌ {A = ℕ} 0 1 = cc in absurd (omega arith)
more-none (Busy s) r e = refl

module _ {N : ℕ} {m n : Machine} {img : List ℕ} {r q : Record} where
  alike_shown : Alike N m n img r q → shown_record r ≡ shown_record q
  alike_shown (resting h e) = ap shown_record e
  alike_shown (working x xs z h f g) = more-none r.phase r f.0 ∙ sym (more-none q.phase q g.0)

  pub alike_answer : Alike N m n img r q → answer_of r ≡ answer_of q
  alike_answer (resting h e) = ap answer_of e
  alike_answer (working x xs z h f g) = f.0 ∙ sym g.0

-- a plan to follow, if it has steps; else the record after it
pub alike-plan : {N : ℕ} {m n : Machine} {img : List ℕ} {r q : Record} (xs : List Step) (z : Record) → z.phase ≡ Idle
    → Follows N m img r xs z → Follows N n img q xs z → Alike N m n img r q
alike-plan [] z h f g = resting (subst (λ (y : Record). Rests y.phase) (sym g) (subst Rests (sym h) tt)) (f ∙ sym g)
alike-plan (x ∷ xs) z h f g = working x xs z h f g

-- ---- two outcomes

pub record Agree (N : ℕ) (m n : Machine) (o p : Out) : Type 0 where
  pub same : shown o ≡ shown p
  pub image : o.image ≡ p.image
  pub next : Alike N m n o.image o.board p.board
  pub bytes : Bytes o.image

module _ {N : ℕ} {m n : Machine} where
  pub agree_whole : (a b : Answer) (img : List ℕ) (r q : Record) (reply : List ℕ) (st : Stretch) → a ≡ b → Bytes img
      → Alike N m n img r q → Agree N m n (whole a img r reply st) (whole b img q reply st)
  agree_whole a b img r q reply st e by v =
      record {
        same = ap₂ (λ (w : Answer) (x : Option Record). record { answer = w; image = img; board = x; reply = reply; stretch = st }) e (alike_shown v);
        image = refl;
        next = v;
        bytes = by;
      }

  pub agree_by : {o p o' p' : Out} → o ≡ o' → p ≡ p' → Agree N m n o' p' → Agree N m n o p
  agree_by e f y = subst₂ (Agree N m n) (sym e) (sym f) y
