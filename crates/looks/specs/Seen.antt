-- What one look at the blocks of an image keeps of them, and the lists of blocks to erase.
use Rattle.std.specs.Prelude.{◌≡◌, List, [], ◌∷◌, Bool, true, false, ◌&&◌, ◌||◌, cond, ℕ, suc, eqb, leb, length, get_or, drop, set, replicate, Option, Some, None}
use Rattle.flash.specs.Flash.{max_blocks, block_numbers}
use Rattle.survey.specs.declared.Survey.{Survey}
use Rattle.journal.specs.Replay.{Entry}
use Rattle.journal.specs.Block.{torn_len}
use Rattle.journal.specs.Index.{places_of}
use Rattle.wire.specs.declared.Refusal.TheVariants as refusal
use Rattle.board.specs.Mount.{all_found, Store, stores, equal_times, lowest_tied, newest, tied, wipe_list, wipe_array, end_of, replay_of, none_valid, time_of}
use Rattle.looks.specs.declared.lists.Counted.{Counted}
use Rattle.looks.specs.declared.looks.Newest.{Newest}
use Rattle.looks.specs.declared.looks.Seen.{Seen}
use Rattle.looks.specs.Surveys.{is_valid, is_blank_kind, or_foreign_kind, pends_in}

-- ---- lists in arrays

-- none yet
abbrev pub none_of : {T : Type 0} {N : ℕ} → T → Counted T N
none_of {T} {N} x = record { items = replicate N x; count = 0 }

-- one more at the end
abbrev pub one_more : {T : Type 0} {N : ℕ} → Counted T N → T → Counted T N
one_more l x = record { items = set l.items l.count x; count = suc l.count }

-- ---- blocks to erase

abbrev pub Erases : Type 0
Erases = Counted ℕ max_blocks

abbrev pub erases_of : List ℕ → Erases
erases_of ks = record { items = wipe_array ks; count = length ks }

-- one more at the end, if it is due
abbrev pub noted : Erases → ℕ → Bool → Erases
noted l k true = one_more l k
noted l k false = l

-- block numbers but the current one and those that are skipped: K14, "every other that isn't blank, by number", "all in number order, but .."
abbrev pub others_in : ℕ → List Bool → List ℕ → List ℕ
others_in c skips [] = []
others_in c skips (k ∷ ks) = cond (eqb c k || get_or skips k false) (others_in c skips ks) (k ∷ others_in c skips ks)

-- ---- what is kept

-- there are pending changes
abbrev pub some_of : List Entry → Bool
some_of [] = false
some_of (e ∷ es) = true

-- of a valid block, whose time another one has or not
abbrev pub kept_of : Store → Bool → Newest
kept_of x same =
    record {
      number = x.number;
      time = time_of x;
      end = end_of x.journal;
      torn = torn_len x.journal.tail;
      pends = some_of (replay_of x.journal).pending;
      shared = same;
      edition = x.journal.edition;
    }

-- of the valid block with the largest time, if one is valid
abbrev pub newest_in : List Store → Option Newest
newest_in [] = None
newest_in (y ∷ ys) = Some (kept_of (newest y ys) (tied (time_of (newest y ys)) (y ∷ ys)))

-- the lowest block whose time another one has, if two have one time
abbrev pub tie_in : List Store → Option ℕ
tie_in xs = cond (equal_times xs) (Some (lowest_tied xs)) None

-- where the values of a valid block stand
abbrev pub store_places : Store → List ℕ
store_places x = places_of x.journal.edition x.journal.frames

-- the newest one's places; with no valid block they stay
abbrev pub places_for : List ℕ → List Store → List ℕ
places_for p [] = p
places_for p (y ∷ ys) = store_places (newest y ys)

-- all that mount and format ask about the blocks of an image: p and q are the places before and after
pub record Sees (N : ℕ) (img p : List ℕ) (z : Seen) (q : List ℕ) : Type 0 where
  pub why : z.why ≡ none_valid (all_found N img)
  pub newest : z.newest ≡ newest_in (stores (all_found N img))
  pub tie : z.tie ≡ tie_in (stores (all_found N img))
  pub others : (c : ℕ) → others_in c z.blanks (block_numbers N) ≡ wipe_list c (all_found N img)
  pub places : q ≡ places_for p (stores (all_found N img))

-- ---- one block more, below those seen so far

abbrev pub none_seen_of : Seen
none_seen_of =
    record { times = replicate max_blocks 0; blanks = replicate max_blocks false; why = refusal.NoStore; newest = newest_in []; tie = tie_in [] }

-- a time stands in a list
abbrev pub has_time : ℕ → List ℕ → Bool
has_time t [] = false
has_time t (x ∷ xs) = eqb t x || has_time t xs

-- a time is no earlier than that of the newest so far, if there is one
abbrev pub no_older : Option Newest → ℕ → Bool
no_older None t = true
no_older (Some w) t = leb w.time t

-- a valid block no older than the newest so far: of several of one time the lowest counts
abbrev pub takes_over : Option Newest → Survey → Bool
takes_over w s = is_valid s.kind && no_older w s.time

unfoldable pub newer : Option Newest → ℕ → Survey → Bool → Option Newest
newer w k s same =
    cond (takes_over w s)
    (Some (record {
      number = k;
      time = s.time;
      end = s.end;
      torn = s.torn;
      pends = pends_in s;
      shared = same;
      edition = s.edition;
    }))
    w

unfoldable pub tying : Option ℕ → ℕ → Bool → Option ℕ
tying q k same = cond same (Some k) q

-- a valid block whose time a block above it has
abbrev pub same_above : ℕ → Survey → List ℕ → Bool
same_above k s times = is_valid s.kind && has_time s.time (drop (suc k) times)

unfoldable pub seeing : ℕ → Survey → Seen → Seen
seeing k s z =
    record {
      times = set z.times k s.time;
      blanks = set z.blanks k (is_blank_kind s.kind);
      why = or_foreign_kind k s.kind z.why;
      newest = newer z.newest k s (same_above k s z.times);
      tie = tying z.tie k (same_above k s z.times);
    }
