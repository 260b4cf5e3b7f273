-- Mount and format by what a look at the blocks kept, in the code's order of tests.
use Rattle.std.specs.Prelude.{List, [], ◌∷◌, ◌++◌, Bool, true, false, ◌&&◌, cond, ℕ, ◌-◌, eqb, ltb, length, Option, Some, None, Result, Ok, Err}
use Rattle.flash.specs.Flash.{block_numbers, block, size_of}
use Rattle.frame.specs.Frame.{edition_number}
use Rattle.journal.specs.Block.{last_time}
use Rattle.wire.specs.declared.Refusal.{Refusal}
use Rattle.wire.specs.declared.Refusal.TheVariants as refusal
use Rattle.board.specs.declared.Job.{Job}
use Rattle.board.specs.Record.{zero_each, rest, starting, Out}
use Rattle.board.specs.Mount.{next_block, new_time, tied_times, numbers_but}
use Rattle.job.specs.declared.records.Stepped.{Stepped}
use Rattle.job.specs.Code.{begins}
use Rattle.looks.specs.declared.looks.Newest.{Newest}
use Rattle.looks.specs.declared.looks.Seen.{Seen}
use Rattle.store.specs.declared.mends.Mend.{Mend}
use Rattle.store.specs.Calls.{places_after, Gives, or_refused}
use Rattle.store.specs.Mends.{mend_in, is_transfer, stands_at, closes_in, size_in, reset_in}
use Rattle.looks.specs.Seen.{Erases, erases_of, others_in}

-- ---- mount

abbrev pub mount_plan : ℕ → Newest → Erases → Mend → Job
mount_plan N w l m =
    record {
      wipe = l.items;
      wipes = l.count;
      moves = is_transfer m;
      drops = true;
      target = next_block N w.number;
      time = new_time (is_transfer m) w.time;
      since = zero_each;
      size = size_in m;
      edition = edition_number w.edition;
      closes = (closes_in m).count;
      close = (closes_in m).items;
    }

-- the block that is taken, the blocks to erase, and what is done with the one
unfoldable pub mount_in : ℕ → ℕ → Newest → Erases → Mend → Result Stepped Refusal
mount_in N l w es m =
    cond (is_transfer m && eqb w.time last_time) (Err refusal.Worn)
    (Ok (begins (rest N l w.number (stands_at w m) (edition_number w.edition)) (mount_plan N w es m) (starting 0 w.end)))

-- on an image
abbrev pub mount_taken : ℕ → List ℕ → Newest → List ℕ → Result Stepped Refusal
mount_taken N img w ks = mount_in N (length img - 1) w (erases_of ks) (mend_in (block (size_of N img) w.number img) w)

-- none is taken where two valid blocks have one time
abbrev pub unless_tied : Option ℕ → Result Stepped Refusal → Result Stepped Refusal
unless_tied None r = r
unless_tied (Some k) r = Err (tied_times k)

-- by the newest block, a tie, why there is no valid block, and the other blocks to erase
abbrev pub mount_kept : ℕ → List ℕ → Option Newest → Option ℕ → Refusal → (ℕ → List ℕ) → Result Stepped Refusal
mount_kept N img None tie why others = Err why
mount_kept N img (Some w) tie why others = unless_tied tie (mount_taken N img w (others w.number))

unfoldable pub mount_seen : ℕ → List ℕ → Seen → Result Stepped Refusal
mount_seen N img z = mount_kept N img z.newest z.tie z.why (λ c. others_in c z.blanks (block_numbers N))

-- it comes to what the definition gives back: p are the places of the block that is taken, and the frame to append is the job's
abbrev pub Comes : List ℕ → Result Stepped Refusal → Out → Type 0
Comes p r o = let s : Stepped = or_refused r in Gives (places_after s.answer p) (reset_in s.next.job) s o

-- ---- format

-- the current block, which is erased last; past the blocks if there is none
abbrev pub last_erased : ℕ → Option Newest → ℕ
last_erased N None = N
last_erased N (Some w) = cond w.shared N w.number

-- block c in an order's end, if it is there
abbrev pub ends_with : Bool → ℕ → List ℕ
ends_with true c = c ∷ []
ends_with false c = []

abbrev pub order_by : ℕ → ℕ → List ℕ
order_by N c = numbers_but c (block_numbers N) ++ ends_with (ltb c N) c
