-- A frame is being closed, whole, torn or wrong.
use mathlib.Core.Path.{◌≡◌, sym, ap, ap₂, ◌∙◌}
use mathlib.Core.Bool.{Bool, true}
use mathlib.Core.List.{List}
use Prim.Native.Nat.{ℕ}
use lib.ListN.{get_or}
use Rattle.std.specs.Prelude.{Option}
use Rattle.flash.specs.Bytes.{all_ff}
use Rattle.frame.specs.declared.FrameRead.{FrameRead}
use Rattle.frame.specs.declared.FrameRead.TheVariants as read
use Rattle.frame.specs.Code.{head_of, read_of}
use Rattle.frame.specs.Reader.{layout_of, decode, read_frame}
use Rattle.reader.specs.declared.fitting.Misfit.{Misfit}
use Rattle.reader.proofs.Answers.{front_being, front_match, laid_read, cut_off_of}
use Rattle.reader.proofs.read_laid.Goals.{else-tears-via-then-tears+else-is_blank, else-tears-via-else-tears}
use Rattle.reader.proofs.read_laid.Goals as goal

pub returns-then-being_closed : goal.returns-then-being_closed
returns-then-being_closed c =
    sym (front_being c.args.front.now.edition c.args.next c.args.front.now.len c.args.front.now.bytes.now c.args.front.now.first c.requires.1
    c.args.front.now.within c.requires.0
    (sym c.being_closed.ensures ∙ c.if-being_closed.true))

pub returns-in_default : goal.returns-in_default
returns-in_default c =
    let e = c.args.front.now.edition in
    let n : ℕ = c.args.front.now.len in
    let t : List ℕ = c.args.front.now.bytes.now in
    let k : ℕ = get_or t 2 0 in
    sym (front_match e c.args.next n t c.args.front.now.first c.requires.1 c.args.front.now.within c.requires.0
    (sym c.being_closed.ensures ∙ c.if-being_closed.false)
    ∙ ap (laid_read (layout_of e c.args.next n k).tears n (decode e k n t) t) (sym c.layout_misfit.ensures ∙ c.in_default.is)
    ∙ ap (λ (x : ℕ). read.Whole (head_of (decode e k x t))) c.args.front.now.first ∙ ap read.Whole (sym c.head.ensures))

pub returns-then-is_blank : goal.returns-then-is_blank
returns-then-is_blank c =
    let e = c.args.front.now.edition in
    let n : ℕ = c.args.front.now.len in
    let t : List ℕ = c.args.front.now.bytes.now in
    let k : ℕ = get_or t 2 0 in
    sym (front_match e c.args.next n t c.args.front.now.first c.requires.1 c.args.front.now.within c.requires.0
    (sym c.being_closed.ensures ∙ c.if-being_closed.false)
    ∙ ap₂ (λ (b : Bool) (m : Option Misfit). laid_read b n (decode e k n t) t m)
    (sym c.tears.ensures ∙ c.if-tears.true) (sym c.layout_misfit.ensures ∙ c.in-Some.is)
    ∙ ap (λ (x : Bool). cut_off_of true x n c.in-Some.misfit.fault) (ap all_ff (sym c.rest.ensures) ∙ sym c.is_blank.ensures ∙ c.if-is_blank.true))

pub returns-else-tears : goal.returns-else-tears
returns-else-tears c =
    let e = c.args.front.now.edition in
    let n : ℕ = c.args.front.now.len in
    let t : List ℕ = c.args.front.now.bytes.now in
    let k : ℕ = get_or t 2 0 in
    let f : Bool → Option Misfit → FrameRead = λ b m. laid_read b n (decode e k n t) t m in
    let x : f c.tears.result c.layout_misfit.result ≡ read_of (read_frame e c.args.next 0 t) =
    sym (front_match e c.args.next n t c.args.front.now.first c.requires.1 c.args.front.now.within c.requires.0
    (sym c.being_closed.ensures ∙ c.if-being_closed.false) ∙ ap₂ f (sym c.tears.ensures) (sym c.layout_misfit.ensures)) in
    elim c.else-tears.branch [
      | else-tears-via-then-tears+else-is_blank w ↦
          ap (λ (y : Bool). cut_off_of true y n c.in-Some.misfit.fault) (sym (ap all_ff (sym w.rest.ensures) ∙ sym w.is_blank.ensures ∙ w.if-is_blank.false))
          ∙ ap₂ f (sym w.if-tears.true) (sym c.in-Some.is) ∙ x
      | else-tears-via-else-tears w ↦ ap₂ f (sym w.if-tears.false) (sym c.in-Some.is) ∙ x
    ]
