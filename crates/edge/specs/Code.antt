-- What the code's parts do: a record's numbers over the arrays that stand in its bytes.
use Rattle.std.specs.Prelude.{◌≡◌, List, true, cond, ℕ, length}
use Rattle.wire.specs.Answer.{edge_number}
use Rattle.board.specs.declared.Phase.{Phase}
use Rattle.board.specs.declared.Record.{Record}
use Rattle.board.specs.Step.{step_on}
use Rattle.job.specs.declared.records.Numbers.{Numbers}
use Rattle.job.specs.declared.moves.Moved.{Moved}
use Rattle.job.specs.Code.{assemble, reached, answered}
use Rattle.lent.specs.Layout.{record_size, record_in, record_into}
use Rattle.pack.specs.Code.{changes}
use Rattle.edge.specs.Edge.{edge_step, ReadsBack}

-- numbers over a buffer's arrays
abbrev pub over : Numbers → List ℕ → Record
over n b = assemble n (record_in b).places (record_in b).unit (record_in b).frame

-- the record that a step reaches from a buffer's arrays
abbrev pub reached_in : ℕ → Moved → List ℕ → List ℕ → Record
reached_in N m img b = reached N m img (record_in b).places (record_in b).unit (record_in b).frame

-- a step's answer, and the buffer after it: written if the record changed, by the phase before
pub record Went (N : ℕ) (img : List ℕ) (p : Phase) (m : Moved) (b : List ℕ) (n : ℕ) (after : List ℕ) : Type 0 where
  pub answer : n ≡ edge_number (answered m)
  pub bytes : after ≡ cond (changes p (answered m)) (record_into (reached_in N m img b) b) b
  pub back : changes p (answered m) ≡ true → length b ≡ record_size → record_in after ≡ reached_in N m img b

-- a step call
pub record DoesStep (N : ℕ) (img b : List ℕ) (n : ℕ) (img' b' : List ℕ) : Type 0 where
  pub answer : n ≡ (edge_step N img b).answer
  pub image : img' ≡ (edge_step N img b).image
  pub board : b' ≡ (edge_step N img b).board
  pub back : ReadsBack b b' (step_on N img (record_in b)).board
