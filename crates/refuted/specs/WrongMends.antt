-- Wrong stores of document 02, K11: torn frames closed in place, resets, and when a mount makes a transfer. As in Wrong each differs from the machine
-- in one thing, off the bench. The runs that tell are in MendRuns.
use Rattle.std.specs.Prelude.{List, [], ◌∷◌, ◌++◌, Bool, true, false, ◌&&◌, ◌||◌, cond, ℕ, suc, ◌+◌, ◌-◌, eqb, ltb, leb, length, get_or}
use Rattle.flash.specs.Flash.{Step, program, apply, size_of, Write, write}
use Rattle.frame.specs.declared.Edition.TheVariants as edition
use Rattle.frame.specs.Frame.{abort, reset, encode, kind_at, finish, reset_len, edition_number}
use Rattle.frame.specs.Reader.{Tail, clean, cut, bad}
use Rattle.journal.specs.Replay.{Entry}
use Rattle.journal.specs.Block.{Journal, last_time, torn_len, closing, changing}
use Rattle.journal.specs.Room.{pending_of}
use Rattle.journal.specs.Index.{places_of}
use Rattle.wire.specs.declared.Answer.TheVariants.{More}
use Rattle.wire.specs.declared.Refusal.TheVariants as refusal
use Rattle.board.specs.declared.Stage.TheVariants.{Wipe, Open, Copy, Seal, Drop, Append, Close}
use Rattle.board.specs.declared.Phase.{Phase}
use Rattle.board.specs.declared.Phase.TheVariants.{Unmounted, Idle, Busy}
use Rattle.board.specs.declared.Job.{Job}
use Rattle.board.specs.declared.Record.{Record}
use Rattle.board.specs.Record.{zero_each, unmounted, counting, ending, starting, busy, Out, out, refuse}
use Rattle.board.specs.Step.{enter, begin}
use Rattle.board.specs.Mount.{all_found, Store, stores, newest, time_of, wipe_list, wipe_array, next_block, store_at, block_in, mount_job}
use Rattle.board.specs.Mount.{Upkeep, rests, mends, moves, upkeep, upkeep_of, for_tail, transfers, end_of, closed_end, replay_of, counts_of}
use Rattle.board.specs.Mount.{due_reset, closes_for, close_array}
use Rattle.board.specs.Exec.{request, step, mount, format}
use Rattle.refuted.specs.Wrong.{Wrongly, steps, mounts, accepted, on_image, with_job}

-- ---- what a mount does after its erases

-- an accepted mount, by the store that it takes
abbrev pub InMount : Type 0
InMount = ℕ → List ℕ → Store → Out → Out

abbrev pub on_current : InMount → ℕ → List ℕ → Out → List Store → Out
on_current w N img o [] = o
on_current w N img o (x ∷ xs) = w N img (newest x xs) o

abbrev pub mounts_of : InMount → Wrongly
mounts_of w = mounts (λ N img o. accepted o (on_current w N img o (stores (all_found N img))))

-- the mount with another upkeep; a store that decides by another rule, of a block's size and its journal
abbrev pub mount_with : ℕ → List ℕ → Store → Upkeep → Out
mount_with N img x u =
    cond (transfers u && eqb (time_of x) last_time) (refuse refusal.Worn img unmounted [])
    (begin img [] (mount_job N img x (wipe_list x.number (all_found N img)) u))

abbrev pub decides : (ℕ → Journal → Upkeep) → Wrongly
decides f = mounts_of (λ N img x o. mount_with N img x (f (size_of N img) x.journal))

abbrev pub is_torn : Tail → Bool
is_torn clean = false
is_torn (cut n) = true
is_torn (bad e) = false

abbrev pub any_pending : List Entry → Bool
any_pending [] = false
any_pending (e ∷ es) = true

abbrev pub is_due : Journal → Bool
is_due x = any_pending (replay_of x).pending

-- "Only where a due reset wouldn't fit after the closed frame is the old transfer made": after every cut, as before K11
unfoldable pub moves_always : Wrongly
moves_always = decides (λ s x. cond (is_torn x.tail || is_due x) moves rests)

-- "a due reset": a torn frame alone, where one would not fit
unfoldable pub moves_undue : Wrongly
moves_undue = decides (λ s x. cond (is_torn x.tail && ltb s (closed_end x + reset_len x.edition)) moves (upkeep_of s x))

-- where a reset is due, a transfer by another test
abbrev pub moves_if : (ℕ → Journal → Bool) → Wrongly
moves_if f = decides (λ s x. cond (is_due x) (cond (f s x) moves mends) (for_tail x.tail))

-- "wouldn't fit": one that ends where the block does
unfoldable pub moves_at_edge : Wrongly
moves_at_edge = moves_if (λ s x. leb s (closed_end x + reset_len x.edition))

-- "wouldn't fit": the reset goes past S
unfoldable pub never_moves : Wrongly
never_moves = moves_if (λ s x. false)

-- "after the closed frame": after the whole frames
unfoldable pub fits_unclosed : Wrongly
fits_unclosed = moves_if (λ s x. ltb s (end_of x + reset_len x.edition))

-- "length 5 or in edition 2 nine": room for five is enough
unfoldable pub fits_five : Wrongly
fits_five = moves_if (λ s x. ltb s (closed_end x + reset_len edition.First))

-- "A torn frame is closed in place": only where anything is pending
unfoldable pub leaves_torn : Wrongly
leaves_torn = decides (λ s x. cond (is_due x) (upkeep_of s x) rests)

abbrev pub unless_rests : Upkeep → Out → Out → Out
unless_rests rests y o = o
unless_rests mends y o = y
unless_rests moves y o = y

-- 6, "a transfer is needed, by a mount too, at time 4,294,967,295": a mount that mends gets it
unfoldable pub worn_mends : Wrongly
worn_mends =
    mounts_of
    (λ N img x o. cond (eqb (time_of x) last_time) (unless_rests (upkeep (size_of N img) x) (refuse refusal.Worn img unmounted []) o) o)

-- a job with these bytes of a torn frame to write
abbrev pub closes_in : List Write → Job → Job
closes_in ws j =
    record {
      wipe = j.wipe;
      wipes = j.wipes;
      moves = j.moves;
      drops = j.drops;
      target = j.target;
      time = j.time;
      since = j.since;
      size = j.size;
      edition = j.edition;
      closes = length ws;
      close = close_array ws;
    }

-- a mount that erases nothing and is to make a transfer begins with the closing
abbrev pub closes_too : InMount
closes_too N img x o =
    let ws : List Write = closes_for mends (block_in N img x) x.journal in
    cond (o.board.job.moves && (eqb o.board.job.wipes 0 && is_torn x.journal.tail))
    (out More img (enter Close (with_job (closes_in ws o.board.job) o.board)) []) o

abbrev pub while_closing : Phase → Out → Out → Out
while_closing Unmounted y o = o
while_closing Idle y o = o
while_closing (Busy Wipe) y o = o
while_closing (Busy Open) y o = o
while_closing (Busy Copy) y o = o
while_closing (Busy Seal) y o = o
while_closing (Busy Drop) y o = o
while_closing (Busy Append) y o = o
while_closing (Busy Close) y o = y

-- "the old transfer made, instead of both": both
unfoldable pub closes_and_moves : Wrongly
closes_and_moves N img r (request h m reply) o = o
closes_and_moves N img r step o =
    while_closing r.phase
    (cond (r.job.moves && eqb (suc r.cursor.index) r.job.closes) (out More o.image (enter Open r) []) o) o
closes_and_moves N img r mount o = mounts_of closes_too N img r mount o
closes_and_moves N img r format o = o

-- ---- how a mount mends

-- what it writes to close, what it appends, and the record's end and counts while it does
pub record Mending : Type 0 where
  pub writes : List Write
  pub bytes : List ℕ
  pub end : ℕ
  pub counts : List ℕ

abbrev pub mending : List Write → List ℕ → ℕ → List ℕ → Mending
mending ws bs e ps = record { writes = ws; bytes = bs; end = e; counts = ps }

abbrev pub mend_job : ℕ → List ℕ → Store → List ℕ → Mending → Record
mend_job N img x ks w =
    busy (counting (ending (store_at N (length img - 1) x) w.end) w.counts) (places_of x.journal.edition x.journal.frames)
    (record {
      wipe = wipe_array ks;
      wipes = length ks;
      moves = false;
      drops = true;
      target = next_block N x.number;
      time = 0;
      since = zero_each;
      size = length w.bytes;
      edition = edition_number x.journal.edition;
      closes = length w.writes;
      close = close_array w.writes;
    })
    (starting 0 (end_of x.journal)) w.bytes

abbrev pub mended : ℕ → List ℕ → Store → Mending → Out
mended N img x w = begin img [] (mend_job N img x (wipe_list x.number (all_found N img)) w)

abbrev pub where_mends : Upkeep → Out → Out → Out
where_mends rests y o = o
where_mends mends y o = y
where_mends moves y o = o

-- a store that mends in another way, by the block's bytes and its journal
abbrev pub mends_by : (List ℕ → Journal → Mending) → Wrongly
mends_by f =
    mounts_of (λ N img x o. where_mends (upkeep (size_of N img) x) (mended N img x (f (block_in N img x) x.journal)) o)

-- the machine's closing; another, of a frame of n bytes at an offset
abbrev pub as_it_closes : List ℕ → Journal → List Write
as_it_closes b x = closes_for mends b x

abbrev pub on_cut : Tail → (ℕ → List Write) → List Write
on_cut clean f = []
on_cut (cut n) f = f n
on_cut (bad e) f = []

abbrev pub closes_by : (List ℕ → ℕ → ℕ → List Write) → Wrongly
closes_by f = mends_by (λ b x. mending (on_cut x.tail (f b (end_of x))) (due_reset x) (closed_end x) zero_each)

-- "kind to 0x0000 low byte first": high byte first
unfoldable pub high_first : Wrongly
high_first = closes_by (λ b at n. changing b (write (at + 1) 0 ∷ write (at + 3) 0 ∷ write (at + 2) 0 ∷ write (at + (n - 1)) finish ∷ []))

-- "length's high byte to 0": it stays
unfoldable pub length_stays : Wrongly
length_stays = closes_by (λ b at n. changing b (write (at + 2) 0 ∷ write (at + 3) 0 ∷ write (at + (n - 1)) finish ∷ []))

-- "each a step only if it must change": bytes that stand already too
unfoldable pub closes_all : Wrongly
closes_all = closes_by (λ b at n. closing at n)

-- "length's high byte .., kind .., then its finish byte": the first byte of its body too
unfoldable pub clears_body : Wrongly
clears_body =
    closes_by
    (λ b at n.
    changing b (write (at + 1) 0 ∷ write (at + 2) 0 ∷ write (at + 3) 0 ∷ write (at + 4) 0 ∷ write (at + (n - 1)) finish ∷ []))

-- the closing's writes with the last one first
abbrev pub turned : Record → Step
turned r =
    cond (eqb r.cursor.index 0) (program r.rest.block (get_or r.job.close (r.job.closes - 1) 0) finish)
    (program r.rest.block (get_or r.job.close (r.cursor.index - 1) 0) 0)

-- "then its finish byte": the finish byte first
unfoldable pub finish_first : Wrongly
finish_first = steps (λ N img r o. while_closing r.phase (on_image (apply (size_of N img) (turned r) img) o) o)

-- "Then, if anything is pending, a reset frame": none, so that a later commit takes up what was pending
unfoldable pub closes_alone : Wrongly
closes_alone = mends_by (λ b x. mending (as_it_closes b x) [] (closed_end x) (counts_of x))

-- "if anything is pending": always, where it fits
unfoldable pub always_resets : Wrongly
always_resets =
    mounts_of
    (λ N img x o.
    let j : Journal = x.journal in
    cond (leb (closed_end j + reset_len j.edition) (size_of N img))
    (mended N img x (mending (as_it_closes (block_in N img x) j) (encode j.edition reset) (closed_end j) zero_each)) o)

-- the abort of the first host that has anything pending, in the place of a reset
abbrev pub abort_first : List ℕ → Journal → List Entry → Mending
abort_first b x [] = mending (as_it_closes b x) [] (closed_end x) zero_each
abort_first b x (e ∷ es) =
    mending (as_it_closes b x) (encode x.edition (abort e.host)) (closed_end x)
    (pending_of x.edition (x.frames ++ (abort e.host ∷ [])))

-- "drops all of it": one host's
unfoldable pub aborts_one : Wrongly
aborts_one = mends_by (λ b x. abort_first b x (replay_of x).pending)

-- "length 5 or in edition 2 nine": five, with no CRC
unfoldable pub reset_bare : Wrongly
reset_bare =
    mends_by (λ b x. mending (as_it_closes b x) (cond (is_due x) (encode edition.First reset) []) (closed_end x) zero_each)

-- "a cut reset, is torn too", and closed: it is written to its end
unfoldable pub finishes_reset : Wrongly
finishes_reset =
    mends_by
    (λ b x.
    cond (eqb (torn_len x.tail) (reset_len x.edition) && ltb 0 (get_or b (end_of x + kind_at) 0))
    (mending [] (due_reset x) (end_of x) zero_each) (mending (as_it_closes b x) (due_reset x) (closed_end x) zero_each))

-- 11, "its last whole frame .. ending exactly at the recorded end": the end stays before the closed frame
unfoldable pub end_stays_of : Wrongly
end_stays_of = mends_by (λ b x. mending (as_it_closes b x) (due_reset x) (end_of x) zero_each)

-- K7, "each host's pending bytes as replay gives them": they stay though a reset drops what is pending
unfoldable pub mend_keeps : Wrongly
mend_keeps = mends_by (λ b x. mending (as_it_closes b x) (due_reset x) (closed_end x) (counts_of x))
