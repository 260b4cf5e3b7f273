-- Mount and format, document 01, "Jobs", and document 02, K4, K5 and K14. Both take no record.
use Rattle.std.specs.Prelude.{List, [], ◌∷◌, ◌++◌, map, Bool, true, false, ◌&&◌, ◌||◌, cond, ℕ, suc, ◌+◌, ◌-◌, eqb, ltb, length, replicate}
use Rattle.flash.specs.Flash.{max_blocks, block_numbers, block, size_of, Write}
use Rattle.frame.specs.Frame.{reset, encode, reset_len, total, edition_number}
use Rattle.frame.specs.Reader.{fault, Tail, clean, cut, bad}
use Rattle.frame.specs.declared.Field.TheVariants as field
use Rattle.journal.specs.Replay.{Entry, State, replay}
use Rattle.journal.specs.Block.{Journal, BlockState, blank, in_progress, valid, foreign, block_state, header_len, time_at, last_time, torn_len, close_writes}
use Rattle.journal.specs.Room.{used, claimed, counts_in}
use Rattle.journal.specs.Index.{places_of}
use Rattle.wire.specs.declared.Refusal.{Refusal}
use Rattle.wire.specs.declared.Refusal.TheVariants as refusal
use Rattle.board.specs.declared.Rest.{Rest}
use Rattle.board.specs.declared.Record.{Record}
use Rattle.board.specs.Record.{allowed, no_places, zero_each, no_closes, rest, ending, starting, unmounted, busy, Out, refuse}
use Rattle.board.specs.Step.{begin}

-- K14: "A transfer goes to the next block in number, round to 0"
abbrev pub next_block : ℕ → ℕ → ℕ
next_block N k = cond (ltb (suc k) N) (suc k) 0

-- the creation time of the block that is made, if one is
abbrev pub new_time : Bool → ℕ → ℕ
new_time true t = suc t
new_time false t = 0

-- ---- of a journal

-- the offset at which the whole frames end
abbrev pub end_of : Journal → ℕ
end_of x = header_len + total x.edition x.frames

abbrev pub replay_of : Journal → State
replay_of x = replay x.frames

-- U and C of what it replays to
abbrev pub used_of : Journal → ℕ
used_of x = used x.edition (replay_of x)

-- K7: "each host's pending bytes as replay gives them"
abbrev pub counts_of : Journal → List ℕ
counts_of x = counts_in x.edition (replay_of x)

abbrev pub claimed_of : Journal → ℕ
claimed_of x = claimed x.edition (replay_of x)

-- K8: "for every id, where replay finds its settled value or that there is none"
abbrev pub places_in : Journal → List ℕ
places_in x = places_of x.edition x.frames

-- ---- the blocks of an image

-- a block by its number
pub record Found : Type 0 where
  pub number : ℕ
  pub state : BlockState

abbrev pub found : ℕ → List ℕ → ℕ → Found
found N img k = record { number = k; state = block_state (block (size_of N img) k img) }

-- every block of an image and its state
abbrev pub all_found : ℕ → List ℕ → List Found
all_found N img = map (found N img) (block_numbers N)

-- what refusal 3 and the erase of a mount ask about a block
abbrev pub is_foreign : BlockState → Bool
is_foreign blank = false
is_foreign in_progress = false
is_foreign (valid x) = false
is_foreign (foreign e) = true

abbrev pub is_blank : BlockState → Bool
is_blank blank = true
is_blank in_progress = false
is_blank (valid x) = false
is_blank (foreign e) = false

abbrev pub any_foreign : List Found → Bool
any_foreign [] = false
any_foreign (x ∷ xs) = is_foreign x.state || any_foreign xs

-- a valid block
pub record Store : Type 0 where
  pub number : ℕ
  pub journal : Journal

abbrev pub time_of : Store → ℕ
time_of x = x.journal.time

-- the valid blocks, in the order of their numbers
abbrev pub store_in : ℕ → BlockState → List Store → List Store
store_in k blank xs = xs
store_in k in_progress xs = xs
store_in k (valid x) xs = record { number = k; journal = x } ∷ xs
store_in k (foreign e) xs = xs

abbrev pub stores : List Found → List Store
stores [] = []
stores (x ∷ xs) = store_in x.number x.state (stores xs)

-- 3, K14: "equal times among valid blocks", below the largest too
abbrev pub same_time : ℕ → List Store → Bool
same_time t [] = false
same_time t (x ∷ xs) = eqb t (time_of x) || same_time t xs

abbrev pub equal_times : List Store → Bool
equal_times [] = false
equal_times (x ∷ xs) = same_time (time_of x) xs || equal_times xs

-- K14: "The valid block with the largest time is current"
abbrev pub newest : Store → List Store → Store
newest x [] = x
newest x (y ∷ ys) = cond (ltb (time_of x) (time_of y)) (newest y ys) (newest x ys)

-- K14: "mount erases every other that isn't blank, by number". K4: "Where one half is valid, the other, if foreign, is erased on mount."
abbrev pub wipe_list : ℕ → List Found → List ℕ
wipe_list k [] = []
wipe_list k (x ∷ xs) = cond (eqb k x.number || is_blank x.state) (wipe_list k xs) (x.number ∷ wipe_list k xs)

-- the blocks to erase, in the record's array
abbrev pub wipe_array : List ℕ → List ℕ
wipe_array ks = ks ++ replicate (max_blocks - length ks) 0

-- what a mount does with the current block after its erases: nothing, K11's mending in place, or a transfer
pub data Upkeep : Type 0 where
  rests : Upkeep
  mends : Upkeep
  moves : Upkeep

-- where the frames end once a torn one is closed
abbrev pub closed_end : Journal → ℕ
closed_end x = end_of x + torn_len x.tail

-- nothing is pending: a torn frame is closed
abbrev pub for_tail : Tail → Upkeep
for_tail clean = rests
for_tail (cut n) = mends
for_tail (bad e) = mends

-- K11: "Then, if anything is pending, a reset frame .. Only where a due reset wouldn't fit after the closed frame is the old transfer made, instead of
-- both.": in a block of s bytes
abbrev pub for_pending : ℕ → Journal → List Entry → Upkeep
for_pending s x [] = for_tail x.tail
for_pending s x (e ∷ es) = cond (ltb s (closed_end x + reset_len x.edition)) moves mends

abbrev pub upkeep_of : ℕ → Journal → Upkeep
upkeep_of s x = for_pending s x (replay_of x).pending

abbrev pub upkeep : ℕ → Store → Upkeep
upkeep s x = upkeep_of s x.journal

-- it makes a block
abbrev pub transfers : Upkeep → Bool
transfers rests = false
transfers mends = false
transfers moves = true

-- ---- mending

-- the reset's bytes, if anything is pending
abbrev pub reset_bytes : Journal → List Entry → List ℕ
reset_bytes x [] = []
reset_bytes x (e ∷ es) = encode x.edition reset

abbrev pub due_reset : Journal → List ℕ
due_reset x = reset_bytes x (replay_of x).pending

-- what each kind of upkeep writes to the current block, whose bytes are b: the closing, and the bytes to append
abbrev pub closes_for : Upkeep → List ℕ → Journal → List Write
closes_for rests b x = []
closes_for mends b x = close_writes b (end_of x) x.tail
closes_for moves b x = []

abbrev pub appends_for : Upkeep → Journal → List ℕ
appends_for rests x = []
appends_for mends x = due_reset x
appends_for moves x = []

-- where the record stands from the mount's acceptance on: past the frame that is closed
abbrev pub stands_for : Upkeep → Rest → Journal → Rest
stands_for rests z x = z
stands_for mends z x = ending z (closed_end x)
stands_for moves z x = z

-- the offsets of the bytes to write, in the record's array
abbrev pub close_array : List Write → List ℕ
close_array ws = map (λ (w : Write). w.at) ws ++ replicate (4 - length ws) 0

-- ---- mount

-- where its record stands, on an image whose length less one is l
abbrev pub store_at : ℕ → ℕ → Store → Rest
store_at N l x = rest N l x.number (end_of x.journal) (edition_number x.journal.edition)

-- the block that a store is in
abbrev pub block_in : ℕ → List ℕ → Store → List ℕ
block_in N img x = block (size_of N img) x.number img

-- K9: "other transfers keep theirs". A transfer copies no pending frame: it starts to look for them at the end
abbrev pub mount_job : ℕ → List ℕ → Store → List ℕ → Upkeep → Record
mount_job N img x ks u =
    busy (stands_for u (store_at N (length img - 1) x) x.journal) (places_in x.journal)
    (record {
      wipe = wipe_array ks;
      wipes = length ks;
      moves = transfers u;
      drops = true;
      target = next_block N x.number;
      time = new_time (transfers u) (time_of x);
      since = zero_each;
      size = length (appends_for u x.journal);
      edition = edition_number x.journal.edition;
      closes = length (closes_for u (block_in N img x) x.journal);
      close = close_array (closes_for u (block_in N img x) x.journal);
    })
    (starting 0 (end_of x.journal)) (appends_for u x.journal)

-- 6: "a transfer is needed, by a mount too, at time 4,294,967,295"
unfoldable pub mount_at : ℕ → List ℕ → List Found → Store → Out
mount_at N img xs x =
    let u : Upkeep = upkeep (size_of N img) x in
    cond (transfers u && eqb (time_of x) last_time) (refuse refusal.Worn img unmounted []) (begin img [] (mount_job N img x (wipe_list x.number xs) u))

-- with no valid block, 3 "names the foreign half (0 first) and, within it, the fault and its place" (K5); 2: "no valid half and none foreign"
abbrev pub or_foreign : ℕ → BlockState → Refusal → Refusal
or_foreign k blank n = n
or_foreign k in_progress n = n
or_foreign k (valid x) n = n
or_foreign k (foreign e) n = refusal.Foreign k e

abbrev pub none_valid : List Found → Refusal
none_valid [] = refusal.NoStore
none_valid (x ∷ xs) = or_foreign x.number x.state (none_valid xs)

-- the lowest of the blocks whose times are equal: the first whose time a later one has
abbrev pub lowest_tied : List Store → ℕ
lowest_tied [] = 0
lowest_tied (x ∷ xs) = cond (same_time (time_of x) xs) x.number (lowest_tied xs)

-- K5: "equal times name half 0, place 4"; K14: "naming the lowest of them"
abbrev pub tied_times : ℕ → Refusal
tied_times k = refusal.Foreign k (fault field.Created time_at)

-- K4: "Refusal 3 remains for two valid halves of equal time, and for no valid half with at least one foreign."
abbrev pub mount_stores : ℕ → List ℕ → List Found → List Store → Out
mount_stores N img xs [] = refuse (none_valid xs) img unmounted []
mount_stores N img xs (y ∷ ys) =
    cond (equal_times (y ∷ ys)) (refuse (tied_times (lowest_tied (y ∷ ys))) img unmounted []) (mount_at N img xs (newest y ys))

unfoldable pub mount_found : ℕ → List ℕ → List Found → Out
mount_found N img xs = mount_stores N img xs (stores xs)

-- 4: "image length not allowed"
unfoldable pub mount_on : ℕ → List ℕ → Out
mount_on N img = cond (allowed N (length img)) (mount_found N img (all_found N img)) (refuse refusal.ImageLength img unmounted [])

-- ---- format

-- block numbers but one
abbrev pub numbers_but : ℕ → List ℕ → List ℕ
numbers_but k [] = []
numbers_but k (n ∷ ns) = cond (eqb k n) (numbers_but k ns) (n ∷ numbers_but k ns)

-- two valid blocks have this time
abbrev pub tied : ℕ → List Store → Bool
tied t [] = false
tied t (x ∷ xs) = cond (eqb t (time_of x)) (same_time t xs) (tied t xs)

-- the order in which a format erases the blocks of an image. K14: "Format erases all in number order, but the current block last if there is
-- one": the valid block whose time is larger than any other's
abbrev pub order_for : ℕ → List Store → List ℕ
order_for N [] = block_numbers N
order_for N (y ∷ ys) =
    let x : Store = newest y ys in
    cond (tied (time_of x) (y ∷ ys)) (block_numbers N) (numbers_but x.number (block_numbers N) ++ (x.number ∷ []))

unfoldable pub format_order : ℕ → List ℕ → List ℕ
format_order N img = order_for N (stores (all_found N img))

-- "then writes block 0", its header at time 1 in a transfer's order; K9: "format writes edition 1". No frame is copied, from no id and no offset on
abbrev pub format_job : ℕ → List ℕ → Record
format_job N img =
    busy (rest N (length img - 1) (next_block N 0) header_len 1) no_places
    (record {
      wipe = wipe_array (format_order N img);
      wipes = length (format_order N img);
      moves = true;
      drops = false;
      target = 0;
      time = 1;
      since = zero_each;
      size = 0;
      edition = 1;
      closes = 0;
      close = no_closes;
    })
    (starting 256 header_len) []

-- 4 is its only refusal
unfoldable pub format_on : ℕ → List ℕ → Out
format_on N img = cond (allowed N (length img)) (begin img [] (format_job N img)) (refuse refusal.ImageLength img unmounted [])
