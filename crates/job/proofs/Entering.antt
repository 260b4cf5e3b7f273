-- Entering a stage by a record's numbers is entering it by the record.
use mathlib.Core.Path.{◌≡◌, refl, sym, ap}
use mathlib.Core.List.{List}
use mathlib.Core.Bool.{Bool, true, false, cond}
use Prim.Native.Nat.{ℕ}
use native.Mathlib.Omega.{arith}
use lib.Dec.{ltb}
use Rattle.wire.specs.declared.Answer.TheVariants.{Done, More}
use Rattle.board.specs.declared.Stage.{Stage}
use Rattle.board.specs.declared.Stage.TheVariants.{Wipe, Open, Drop, Append, Close}
use Rattle.board.specs.declared.Cursor.{Cursor}
use Rattle.board.specs.declared.Record.{Record}
use Rattle.board.specs.declared.Rest.{Rest}
use Rattle.board.specs.Record.{idle, in_stage}
use Rattle.board.specs.Step.{first, enter_append, enter_drop, enter_close, enter_open, enter_wipe}
use Rattle.job.specs.declared.records.Numbers.{Numbers}
use Rattle.job.specs.declared.records.Stepped.{Stepped}
use Rattle.job.specs.Code.{assemble, going, over, LeadsTo, go_append, landed_on, go_drop, go_close, go_open, go_wipe}

-- a test as a variable of its own: a rewrite of a record's field would reach into the record
pub when_true : {A : Type 0} (b : Bool) (x y : A) → b ≡ true → x ≡ cond b x y
when_true b x y e = sym (ap (λ (t : Bool). cond t x y) e)

pub when_false : {A : Type 0} (b : Bool) (x y : A) → b ≡ false → y ≡ cond b x y
when_false b x y e = sym (ap (λ (t : Bool). cond t x y) e)

done-ends : Done ≡ More → ⊥
done-ends e = let z : ◌≡◌ {A = ℕ} 0 1 = cc in omega arith

module _ (p u f : List ℕ) where
  pub going_leaves : (st : Stage) (c : Cursor) (n : Numbers) → LeadsTo p u f (going st c n) (in_stage st c (assemble n p u f))
  going_leaves st c n = record { answers = refl; gives = refl; goes = λ e. refl }

  pub over_leaves : (z : Rest) → LeadsTo p u f (over z) (idle p z)
  over_leaves z = record { answers = refl; gives = refl; goes = λ e. absurd (done-ends e) }

  pub leaves-if : (b : Bool) {s t : Stepped} {r q : Record} → LeadsTo p u f s r → LeadsTo p u f t q → LeadsTo p u f (cond b s t) (cond b r q)
  leaves-if true x y = x
  leaves-if false x y = y

  pub append_leaves : (n : Numbers) → LeadsTo p u f (go_append n) (enter_append (assemble n p u f))
  unfolding go_append enter_append
  append_leaves n = leaves-if (ltb 0 n.job.size) (going_leaves Append (first n.cursor) n) (over_leaves n.rest)

  pub drop_leaves : (n : Numbers) → LeadsTo p u f (go_drop n) (enter_drop (assemble n p u f))
  unfolding go_drop enter_drop
  drop_leaves n = leaves-if n.job.drops (going_leaves Drop (first n.cursor) n) (append_leaves (landed_on n))

  pub close_leaves : (n : Numbers) → LeadsTo p u f (go_close n) (enter_close (assemble n p u f))
  unfolding go_close enter_close
  close_leaves n = leaves-if (ltb 0 n.job.closes) (going_leaves Close (first n.cursor) n) (append_leaves n)

  pub open_leaves : (n : Numbers) → LeadsTo p u f (go_open n) (enter_open (assemble n p u f))
  unfolding go_open enter_open
  open_leaves n = leaves-if n.job.moves (going_leaves Open (first n.cursor) n) (close_leaves n)

  pub wipe_leaves : (n : Numbers) → LeadsTo p u f (go_wipe n) (enter_wipe (assemble n p u f))
  unfolding go_wipe enter_wipe
  wipe_leaves n = leaves-if (ltb 0 n.job.wipes) (going_leaves Wipe (first n.cursor) n) (open_leaves n)
