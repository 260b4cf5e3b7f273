-- What a call came to. proofs/ ties it to board's definitions.
use Rattle.std.specs.Prelude.{◌≡◌, List, Bool, true, false, ℕ, Result, Ok, Err}
use Rattle.wire.specs.declared.Answer.{Answer}
use Rattle.wire.specs.declared.Answer.TheVariants.{Done, More, Refused}
use Rattle.wire.specs.declared.Refusal.{Refusal}
use Rattle.board.specs.declared.Phase.TheVariants.{Unmounted}
use Rattle.board.specs.Record.{no_places, no_frame, unmounted, Out}
use Rattle.job.specs.declared.Outcome.{Outcome}
use Rattle.job.specs.declared.records.Stepped.{Stepped}
use Rattle.job.specs.Code.{assemble, at_rest_of, outcome}

-- as a record: no frame is copied yet
abbrev pub made : List ℕ → List ℕ → Stepped → Outcome
made places frame s = outcome s.answer (assemble s.next places no_frame frame)

-- an answer that leaves no job
abbrev pub ends : Answer → Bool
ends Done = true
ends More = false
ends (Refused n) = true

-- the places that it leaves: none where it is refused, else those of the block that is taken, also at rest (document 02, K8)
abbrev pub places_after : Answer → List ℕ → List ℕ
places_after Done places = places
places_after More places = places
places_after (Refused n) places = no_places

-- it is what the definition gives back, with these places and this frame to append
pub record Gives (places frame : List ℕ) (s : Stepped) (o : Out) : Type 0 where
  pub answers : s.answer ≡ o.answer
  pub gives : assemble s.next places no_frame frame ≡ o.board
  pub ended : s.ended ≡ ends o.answer

-- a refusal: the record is unmounted
abbrev pub refused : Refusal → Stepped
refused n = at_rest_of (Refused n) Unmounted unmounted.rest

-- what a mount or format came to, also where it is refused
abbrev pub or_refused : Result Stepped Refusal → Stepped
or_refused (Ok s) = s
or_refused (Err n) = refused n
