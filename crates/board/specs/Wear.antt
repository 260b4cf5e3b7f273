-- Erase counts, document 02, K14: "In a run, from one finished format to the next one's start, with no mount begun inside a job, two blocks' erase
-- counts differ by at most one." Of every machine that keeps the promise; the counts are those of the flash steps that its step calls do.
use Rattle.std.specs.Prelude.{List, [], ◌∷◌, ◌++◌, true, cond, ◌≡◌, ℕ, suc, ◌+◌, ◌≤◌, ◌<◌, eqb, length}
use Rattle.flash.specs.Bytes.{Bytes}
use Rattle.flash.specs.Flash.{Step, program, erase, apply_all, size_of}
use Rattle.wire.specs.declared.Answer.TheVariants.{More}
use Rattle.board.specs.declared.Phase.{Phase}
use Rattle.board.specs.declared.Phase.TheVariants.{Unmounted, Idle, Busy}
use Rattle.board.specs.declared.Record.{Record}
use Rattle.board.specs.Record.{allowed, Out}
use Rattle.board.specs.Exec.{Machine, Call, request, step, mount, format}
use Rattle.board.specs.Plan.{Work}
use Rattle.board.specs.Claim.{formatted}
use Rattle.board.specs.Demand1.{Rests}
use Rattle.board.specs.Promise.{Job, Promise}

-- ---- the flash steps done

-- what is left to do after a request or a mount: a call that answers more has its job's steps to do; any other leaves what was left, nothing where a
-- mount is begun in no job
pub data LeavesToDo (N : ℕ) (m : Machine) (img : List ℕ) (r : Record) (left : List Step) (c : Call) : List Step → Type 0 where
  begins : (w : Work) → (m img r c).answer ≡ More → Job N img r c w → LeavesToDo N m img r left c w.steps
  goes_on : ((m img r c).answer ≡ More → ⊥) → LeavesToDo N m img r left c left

-- the calls, each given what the last gave back, do the steps xs: "each step call then does the next step"; a step call with nothing left to do and
-- every other call do none. A format ends the run.
abbrev pub Does : ℕ → Machine → List ℕ → Record → List Step → List Call → List Step → Type 0
Does N m img r left [] xs = xs ≡ []
Does N m img r [] (step ∷ cs) xs = let o : Out = m img r step in Does N m o.image o.board [] cs xs
Does N m img r (x ∷ left) (step ∷ cs) xs =
    let o : Out = m img r step in (ys : List Step) × (xs ≡ x ∷ ys) × Does N m o.image o.board left cs ys
Does N m img r left (request h msg reply ∷ cs) xs =
    let o : Out = m img r (request h msg reply) in
    (after : List Step) × LeavesToDo N m img r left (request h msg reply) after × Does N m o.image o.board after cs xs
Does N m img r left (mount ∷ cs) xs =
    let o : Out = m img r mount in (after : List Step) × LeavesToDo N m img r left mount after × Does N m o.image o.board after cs xs
Does N m img r left (format ∷ cs) xs = ⊥

-- the image after the calls, and how many of them were step calls on a record in a job
abbrev pub image_after : Machine → List ℕ → Record → List Call → List ℕ
image_after m img r [] = img
image_after m img r (c ∷ cs) = let o : Out = m img r c in image_after m o.image o.board cs

abbrev pub made_in_of : Phase → ℕ
made_in_of Unmounted = 0
made_in_of Idle = 0
made_in_of (Busy s) = 1

abbrev pub made_by : Record → Call → ℕ
made_by r (request h msg reply) = 0
made_by r step = made_in_of r.phase
made_by r mount = 0
made_by r format = 0

abbrev pub steps_made : Machine → List ℕ → Record → List Call → ℕ
steps_made m img r [] = 0
steps_made m img r (c ∷ cs) = let o : Out = m img r c in made_by r c + steps_made m o.image o.board cs

-- ---- counts

-- how often block k was erased
unfoldable pub erases_of : ℕ → List Step → ℕ
erases_of k [] = 0
erases_of k (program j o v ∷ xs) = erases_of k xs
erases_of k (erase j ∷ xs) = cond (eqb j k) (suc (erases_of k xs)) (erases_of k xs)

-- an erase counts one for its block, wherever it stands in the list and whatever the block held, and nothing for any other; a programmed byte counts nothing
pub record ErasesExact : Type 0 where
  pub none : (k : ℕ) → erases_of k [] ≡ 0
  pub its_block : (k : ℕ) (xs ys : List Step) → erases_of k (xs ++ (erase k ∷ ys)) ≡ suc (erases_of k (xs ++ ys))
  pub other_block : (j k : ℕ) (xs ys : List Step) → (j ≡ k → ⊥) → erases_of k (xs ++ (erase j ∷ ys)) ≡ erases_of k (xs ++ ys)
  pub programs : (j k o v : ℕ) (xs ys : List Step) → erases_of k (xs ++ (program j o v ∷ ys)) ≡ erases_of k (xs ++ ys)

-- ---- the run

-- "to the next one's start, with no mount begun inside a job"
abbrev pub Undisturbed : Machine → List ℕ → Record → List Call → Type 0
Undisturbed m img r [] = Unit {0}
Undisturbed m img r (request h msg reply ∷ cs) = let o : Out = m img r (request h msg reply) in Bytes msg × Undisturbed m o.image o.board cs
Undisturbed m img r (step ∷ cs) = let o : Out = m img r step in Undisturbed m o.image o.board cs
Undisturbed m img r (mount ∷ cs) = let o : Out = m img r mount in Rests r.phase × Undisturbed m o.image o.board cs
Undisturbed m img r (format ∷ cs) = ⊥

-- of a run from a record in no job
pub record Wears (N : ℕ) (m : Machine) (img : List ℕ) (r : Record) (cs : List Call) : Type 0 where
  -- there are steps that the calls do, and whichever they are: they are what was done to the image, one for each step call in a job, an erase of a
  -- blank block too
  pub some : (xs : List Step) × Does N m img r [] cs xs
  pub image : (xs : List Step) → Does N m img r [] cs xs → image_after m img r cs ≡ apply_all (size_of N img) xs img
  pub each : (xs : List Step) → Does N m img r [] cs xs → length xs ≡ steps_made m img r cs
  -- "two blocks' erase counts differ by at most one"
  pub even : (xs : List Step) (j k : ℕ) → Does N m img r [] cs xs → j < N → k < N → erases_of j xs ≤ suc (erases_of k xs)

-- the first three of these alone
pub record Worked (N : ℕ) (m : Machine) (img : List ℕ) (r : Record) (cs : List Call) : Type 0 where
  pub some : (xs : List Step) × Does N m img r [] cs xs
  pub image : (xs : List Step) → Does N m img r [] cs xs → image_after m img r cs ≡ apply_all (size_of N img) xs img
  pub each : (xs : List Step) → Does N m img r [] cs xs → length xs ≡ steps_made m img r cs

unfoldable pub EvenWear : Type 0
EvenWear =
    (N : ℕ) (m : Machine) → Promise N m → (img : List ℕ) (r : Record) (cs : List Call) → Bytes img → allowed N (length img) ≡ true
    → let o : Out = formatted N m img r in
    Undisturbed m o.image o.board cs → Wears N m o.image o.board cs
