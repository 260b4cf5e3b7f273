-- A whole frame by the short way; any other by the first byte that does not fit, its fault moved by the offset.
use mathlib.Core.Path.{sym, ap, ◌∙◌}
use mathlib.Core.List.{List}
use Prim.Native.Nat.{ℕ}
use native.Mathlib.Omega.{arith}
use lib.ListN.{length, drop, length-drop}
use Rattle.frame.specs.Reader.{read_frame}
use Rattle.frame.specs.Code.{read_of}
use Rattle.frame.proofs.Faults.{PlacedIn, fault-placed}
use Rattle.reader.proofs.Answers.{shift_read, shift_read_lem, shift_other, moved, wrong-read}
use Rattle.flash.proofs.Blank.{bytes_of, bytes_drop}
use Rattle.reader.specs.Whole.{is_whole}
use Rattle.reader.proofs.Short.{whole-read}
use Rattle.reader.proofs.read_frame.Goals as goal

pub returns-then-is_whole : goal.returns-then-is_whole
returns-then-is_whole c =
    let u : List ℕ = drop c.args.at c.args.block.now in
    let bs = bytes_drop c.args.at c.args.block.now (bytes_of c.args.block.now (λ i. omega (arith, c.type_inv.block i))) in
    rw (c.head.ensures, c.rest-bytes.ensures)
    (sym (shift_read_lem c.args.edition c.args.next c.args.at u
    ∙ ap (shift_read c.args.at) (whole-read c.args.edition c.args.next u bs
    (ap (is_whole c.args.edition c.args.next) (sym c.rest-bytes.ensures) ∙ sym c.is_whole.ensures ∙ c.if-is_whole.true))))

pub overflow_add-result : goal.overflow_add-result
overflow_add-result c =
    let q : PlacedIn 0 (length (drop c.args.at c.args.block.now)) c.in-Wrong.fault = fault-placed c.args.edition c.args.next 0
    (drop c.args.at c.args.block.now) c.in-Wrong.fault
    (wrong-read (read_frame c.args.edition c.args.next 0 (drop c.args.at c.args.block.now)) c.in-Wrong.fault
    (ap (λ (x : List ℕ). read_of (read_frame c.args.edition c.args.next 0 x)) (sym c.rest-bytes.ensures) ∙ sym c.read_front.ensures ∙ c.in-Wrong.is)) in omega
    (arith, q.1, length-drop c.args.at c.args.block.now, c.well_formed)

pub returns-in-Wrong : goal.returns-in-Wrong
returns-in-Wrong c =
    ap (shift_read c.args.at) (sym c.in-Wrong.is)
    ∙ moved c.args.edition c.args.next c.args.at (drop c.args.at c.args.block.now) c.rest-bytes.result.now c.read_front.result
    c.rest-bytes.ensures c.read_front.ensures

pub returns-in_default : goal.returns-in_default
returns-in_default c =
    sym (shift_other c.args.at c.read_front.result c.in_default.not-Wrong)
    ∙ moved c.args.edition c.args.next c.args.at (drop c.args.at c.args.block.now) c.rest-bytes.result.now c.read_front.result
    c.rest-bytes.ensures c.read_front.ensures
