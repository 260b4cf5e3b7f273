-- Wrong stores of K12, as in Wrong: each wears the flash more than it needs to.
use Rattle.std.specs.Prelude.{List, true, cond, ℕ, suc, ◌+◌, ◌/◌, ltb, set}
use Rattle.std.proofs.Math.Option.{Option, none, some}
use Rattle.flash.specs.Flash.{size_of}
use Rattle.journal.specs.Block.{Journal, header_len}
use Rattle.board.specs.declared.Job.{Job}
use Rattle.board.specs.declared.Record.{Record}
use Rattle.board.specs.Record.{no_wipes, starting, busy_with, Out}
use Rattle.board.specs.Step.{begin}
use Rattle.board.specs.Queue.{held}
use Rattle.refuted.specs.Wrong.{Wrongly, requests, by_answer}

-- the job with a transfer before its frame, of what the block holds
abbrev pub after_transfer : List ℕ → Record → Out → Option Journal → Out
after_transfer img r o none = o
after_transfer img r o (some x) =
    let j : Job = o.board.job in
    begin img o.reply
    (busy_with o.board.rest r.places
    (record {
      wipe = j.wipe;
      wipes = j.wipes;
      moves = true;
      drops = j.drops;
      target = j.target;
      time = suc x.time;
      since = j.since;
      size = j.size;
      edition = j.edition;
      closes = j.closes;
      close = j.close;
    })
    (starting 0 header_len) o.board.frame)

-- "after a transfer if end + n exceeds S": always
unfoldable pub transfers_always : Wrongly
transfers_always = requests (λ N img r h m reply o. by_answer o.answer o (after_transfer img r o (held N img r)) o)

-- if it exceeds S/2
unfoldable pub transfers_half_full : Wrongly
transfers_half_full =
    requests (λ N img r h m reply o.
    by_answer o.answer o (cond (ltb (size_of N img / 2) (r.rest.end + o.board.job.size)) (after_transfer img r o (held N img r)) o) o)

-- "Transfer, into the blank half": which is erased first
abbrev pub wipes_target : List ℕ → Out → Out
wipes_target img o =
    let j : Job = o.board.job in
    begin img o.reply
    (busy_with o.board.rest o.board.places
    (record {
      wipe = set no_wipes 0 j.target;
      wipes = 1;
      moves = j.moves;
      drops = j.drops;
      target = j.target;
      time = j.time;
      since = j.since;
      size = j.size;
      edition = j.edition;
      closes = j.closes;
      close = j.close;
    })
    o.board.cursor o.board.frame)

unfoldable pub erases_target : Wrongly
erases_target = requests (λ N img r h m reply o. by_answer o.answer o (cond o.board.job.moves (wipes_target img o) o) o)
