-- Steps on the record's bytes: what the parts of the code came to is what the definitions say.
use mathlib.Core.Path.{◌≡◌, sym, ap, subst, ◌∙◌}
use mathlib.Core.List.{List, []}
use mathlib.Core.Bool.{Bool, cond}
use Prim.Native.Nat.{ℕ}
use lib.ListN.{length}
use borrow.Author.Tests.{eq-eqb}
use Rattle.std.specs.Prelude.{Option}
use Rattle.flash.proofs.Cases.{on_test}
use Rattle.frame.specs.declared.Host.{Host}
use Rattle.wire.specs.declared.Answer.{Answer}
use Rattle.wire.specs.declared.Answer.TheVariants.{More}
use Rattle.wire.specs.Answer.{edge_number}
use Rattle.board.specs.declared.Record.{Record}
use Rattle.board.specs.Record.{Out}
use Rattle.board.specs.Step.{enter_copy, step_on}
use Rattle.board.specs.Drive.{made_on}
use Rattle.job.specs.declared.records.Numbers.{Numbers}
use Rattle.job.specs.declared.records.Stepped.{Stepped}
use Rattle.job.specs.declared.moves.Moved.{Moved}
use Rattle.job.specs.Code.{assemble, LeadsTo, Appends, answered, ended_at, Steps}
use Rattle.lent.specs.Layout.{record_size, record_in, record_bytes, record_into}
use Rattle.pack.specs.Code.{loaded_in, Holds, changes}
use Rattle.midframe.specs.Code.{Made}
use Rattle.edge.specs.Edge.{guarded, written, edge_step, edge_made, ReadsBack}
use Rattle.edge.specs.Code.{over, reached_in, Went, DoesStep}
use Rattle.edge.proofs.Buffers.{filled}
use Rattle.edge.proofs.Kept.{Keeps}

-- a frame loaded from the buffer's own arrays
pub frame-loaded : (N : ℕ) (img : List ℕ) (n : Numbers) (c : Option Host) (b after places unit placed laid : List ℕ) (s : Stepped)
    → Appends c (record_in b).frame → places ≡ (record_in b).places → unit ≡ (record_in b).unit
    → ((f : List ℕ) → Appends c f → LeadsTo placed laid f s (enter_copy N img (assemble n places unit f)))
    → Holds (loaded_in s placed laid b) b after → Holds (enter_copy N img (over n b)) b after
frame-loaded N img n c b after places unit placed laid s ends ep eu h w =
    let g = rw (ep, eu) at (h (record_in b).frame ends) in subst (λ (r : Record). Holds r b after) g.gives w

-- the whole: a step, or a step that was made
pub driven : {N : ℕ} (img b after : List ℕ) (n : ℕ) (m : Moved) (o : Out) → length b ≡ record_size
    → Steps (answered m) (ended_at m) (reached_in N m img b) img o → Keeps (record_in b) o → Went N img (record_in b).phase m b n after
    → ((n ≡ edge_number o.answer) × (after ≡ written b o)) × (record_in after ≡ o.board)
driven img b after n m o l s k w =
    let p = (record_in b).phase in
    let e : after ≡ written b o =
    w.bytes ∙ (λ i. cond (changes p (s.answers i)) (record_into (s.gives i) b) b)
    ∙ ap (λ (x : List ℕ). cond (changes p o.answer) x b) (filled o.board b l) in (
      (w.answer ∙ ap edge_number s.answers, e),
      on_test (changes p o.answer)
          (λ t. w.back (ap (changes p) s.answers ∙ t) l ∙ s.gives)
          (λ t. ap record_in (e ∙ ap (λ (d : Bool). cond d (record_bytes o.board) b) t) ∙ sym (k t)),
    )

-- a call that answers more in the middle of a frame
module _ (o : Out) (img b img' b' : List ℕ) (n : ℕ) (e : n ≡ edge_number More) (m : Made o b img' b') where
  pub midway : (n ≡ (guarded img b [] o (written b o)).answer) × (img' ≡ (guarded img b [] o (written b o)).image)
      × (b' ≡ (guarded img b [] o (written b o)).board)
  midway = (
    rw (eq-eqb _ _ m.size) (e ∙ ap edge_number (sym m.answers)),
    rw (eq-eqb _ _ m.size) m.image,
    rw (eq-eqb _ _ m.size)
        (m.bytes ∙ sym (ap (λ (a : Answer). cond (changes (record_in b).phase a) (record_bytes o.board) b) m.answers)),
  )

-- a step
pub middle : {N : ℕ} (img b img' b' : List ℕ) (n : ℕ) → n ≡ edge_number More → Made (step_on N img (record_in b)) b img' b' → DoesStep N img b n img' b'
unfolding edge_step
middle {N} img b img' b' n e m =
    let d = midway (step_on N img (record_in b)) img b img' b' n e m in
    record { answer = d.0; image = d.1; board = d.2; back = λ _. m.back }

-- a step that was made
pub middle-made : (N : ℕ) (img b b' : List ℕ) (n : ℕ) → n ≡ edge_number More → Made (made_on N img (record_in b)) b img b'
    → ((n ≡ (edge_made N img b).answer) × (b' ≡ (edge_made N img b).board)) × ReadsBack b b' (made_on N img (record_in b)).board
unfolding edge_made
middle-made N img b b' n e m =
    let d = midway (made_on N img (record_in b)) img b img b' n e m in ((d.0, d.2), λ _. m.back)
