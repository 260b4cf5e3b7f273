-- What a call and the steps after it come to.
use Rattle.std.specs.Prelude.{List, ◌∷◌, ◌++◌, ℕ, zero, suc, ◌+◌, ◌%◌, ◌/◌, take, drop, replicate}
use Rattle.wire.specs.declared.Answer.{Answer}
use Rattle.wire.specs.declared.Answer.TheVariants.{Done, More, Refused}
use Rattle.board.specs.declared.Record.{Record}
use Rattle.board.specs.Record.{Out, unmounted}
use Rattle.board.specs.Step.{step_on}
use Rattle.board.specs.Queue.{asking, request_on}
use Rattle.job.specs.declared.Outcome.{Outcome}
use Rattle.scene.specs.declared.Bench.{Bench}

-- image and record, the last answer, and how many steps there were
pub record Reached : Type 0 where
  pub image : List ℕ
  pub board : Record
  pub answer : Answer
  pub steps : ℕ

abbrev pub reached : List ℕ → Record → Answer → ℕ → Reached
reached img r a n = record { image = img; board = r; answer = a; steps = n }

-- one step more, if the last answer was more
abbrev pub go_on : ℕ → Answer → List ℕ → Record → ℕ → (List ℕ → Record → Answer → ℕ → Reached) → Reached
go_on N Done img r n go = reached img r Done n
go_on N More img r n go = go (step_on N img r).image (step_on N img r).board (step_on N img r).answer (n + 1)
go_on N (Refused x) img r n go = reached img r (Refused x) n

-- at most so many steps
unfoldable pub steps_from : ℕ → ℕ → List ℕ → Record → Answer → ℕ → Reached
steps_from N zero img r a n = reached img r a n
steps_from N (suc most) img r a n = go_on N a img r n (λ img' r' a' n'. steps_from N most img' r' a' n')

-- a call that was answered, and its steps
abbrev pub run_on_of : ℕ → ℕ → List ℕ → Outcome → Reached
run_on_of N most img o = steps_from N most img o.board o.answer 0

-- ---- a bench's image is the first bytes of its buffer

abbrev pub image_of : Bench → List ℕ
image_of d = take d.size d.image

-- a bench after a call: its buffer's later bytes stay
abbrev pub bench_of : Bench → Reached → List ℕ → Bench
bench_of d w reply =
    record {
      image = w.image ++ drop d.size d.image;
      size = d.size;
      blocks = d.blocks;
      board = w.board;
      answer = w.answer;
      steps = w.steps;
      reply = reply;
    }

-- a call's answer and record as the code hands them on, and at most so many steps
abbrev pub call_on : Bench → ℕ → Out → List ℕ → Bench
call_on d most o reply = bench_of d (steps_from d.blocks most (image_of d) o.board o.answer 0) reply

-- a reply as it is lent
abbrev pub fresh : List ℕ
fresh = replicate 16 238

-- an image of so many bytes of one value, before any call
abbrev pub new_bench : ℕ → ℕ → ℕ → Bench
new_bench value size N =
    record {
      image = replicate 4096 value;
      size = size;
      blocks = N;
      board = unmounted;
      answer = Done;
      steps = 0;
      reply = fresh;
    }

-- a request, and at most so many of its steps
abbrev pub ask_on : Bench → ℕ → List ℕ → ℕ → Bench
ask_on d h m most =
    let o : Out = request_on (asking d.blocks (image_of d) d.board (record { 0 = h }) m fresh) in
    call_on d most o o.reply

-- a put of so many bytes of one value
abbrev pub put_message : ℕ → ℕ → ℕ → List ℕ
put_message id value count =
    (6 + count) % 256 ∷ (6 + count) / 256 ∷ 1 ∷ 1 ∷ id % 256 ∷ id / 256 ∷ replicate count value
