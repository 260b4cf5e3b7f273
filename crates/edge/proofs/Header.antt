-- The numbers that the header gives beside the board's answers.
use mathlib.Core.Path.{◌≡◌, refl}
use mathlib.Core.Bool.{false}
use lib.ListN.{length}
use borrow.Author.Tests.{ne_eqb}
use Rattle.edge.specs.Edge.{holds_record, edge_request, edge_step, edge_made, edge_mount, edge_format, edge_read, edge_next, edge_run}
use Rattle.edge.specs.Header.{NumbersExact, WrongRecordExact}

pub numbers_exact : NumbersExact
numbers_exact = record { program = λ at v. refl; erase = λ at n. refl; record-bytes = refl }

pub wrong_record : WrongRecordExact
unfolding WrongRecordExact edge_request edge_step edge_made edge_mount edge_format edge_read edge_next edge_run
wrong_record N img b h =
    let t : holds_record b ≡ false = ne_eqb (length b) 1084 h in
    record {
      request = λ x m reply. rw t;
      step = rw t;
      made = rw t;
      mount = rw t;
      format = rw t;
      read = λ x m at size. rw t;
      next = λ n at size byte. rw t;
      run = λ n steps. rw t;
    }
