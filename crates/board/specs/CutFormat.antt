-- "On an image the store left, a cut format leaves the old settled objects, no store, or the empty store": of every image that a run left,
-- one that a cut inside an erase left too. K4: "K1, and document 01's word on what a cut format leaves, keep to cuts between steps."
use Rattle.std.specs.Prelude.{List, [], ◌∷◌, true, ◌≡◌, ℕ, ◌+◌, ◌≤◌, ◌<◌, length}
use Rattle.flash.specs.Bytes.{Bytes}
use Rattle.flash.specs.Flash.{block, size_of, with_block}
use Rattle.frame.specs.declared.Edition.TheVariants as edition
use Rattle.frame.specs.Reader.{clean}
use Rattle.journal.specs.Replay.{Object}
use Rattle.journal.specs.Block.{Journal, journal, BlockState, blank, in_progress, valid, foreign, block_state}
use Rattle.board.specs.declared.Record.{Record}
use Rattle.board.specs.Record.{Out, allowed}
use Rattle.board.specs.Mount.{replay_of}
use Rattle.board.specs.Exec.{format, Machine}
use Rattle.board.specs.Book.{Book, first_book, enter_call}
use Rattle.board.specs.Claim.{steps_on, formatted, Event, call, cut_erase, HappensFrom}

-- ---- what a run leaves

-- image, record and book at the end of a run
pub record Left : Type 0 where
  pub image : List ℕ
  pub board : Record
  pub book : Book

-- calls that each got what the last gave back, and cuts inside erases
abbrev pub after_all : ℕ → Machine → List ℕ → Record → Book → List Event → Left
after_all N m img r b [] = record { image = img; board = r; book = b }
after_all N m img r b (call c ∷ es) = let o : Out = m img r c in after_all N m o.image o.board (enter_call b c o.answer) es
after_all N m img r b (cut_erase k new q ∷ es) = after_all N m (with_block (size_of N img) k new img) q b es

-- a run from a finished format on
abbrev pub left_by_of : ℕ → Machine → List ℕ → Record → List Event → Left
left_by_of N m img r es = after_all N m (formatted N m img r).image (formatted N m img r).board first_book es

-- ---- what a cut leaves

-- beside a valid block of a time: a mount takes that one, and erases what isn't blank
abbrev pub Beside : ℕ → BlockState → Type 0
Beside t blank = Unit {0}
Beside t in_progress = Unit {0}
Beside t (valid x) = x.time < t
Beside t (foreign e) = Unit {0}

-- "the old settled objects": a mount finds them. K14: "equal times among valid blocks are 3", so that no two have one time
pub record OldObjects (N : ℕ) (img : List ℕ) (os : List Object) : Type 0 where
  pub number : ℕ
  pub journal : Journal
  pub there : number < N
  pub is-valid : block_state (block (size_of N img) number img) ≡ valid journal
  pub objects : (replay_of journal).objects ≡ os
  pub others : (j : ℕ) → j < N → (j ≡ number → ⊥) → Beside journal.time (block_state (block (size_of N img) j img))
  pub apart : (i j : ℕ) (x y : Journal) → i < N → j < N → block_state (block (size_of N img) i img) ≡ valid x
      → block_state (block (size_of N img) j img) ≡ valid y → x.time ≡ y.time → i ≡ j

-- "no store": a mount answers 2
abbrev pub Empty : BlockState → Type 0
Empty blank = Unit {0}
Empty in_progress = Unit {0}
Empty (valid x) = ⊥
Empty (foreign e) = ⊥

abbrev pub NoStore : ℕ → List ℕ → Type 0
NoStore N img = (j : ℕ) → j < N → Empty (block_state (block (size_of N img) j img))

-- "the empty store"
pub record EmptyStore (N : ℕ) (img : List ℕ) : Type 0 where
  pub first : block_state (block (size_of N img) 0 img) ≡ valid (journal edition.First 1 [] clean)
  pub others : (j : ℕ) → j < N → (j ≡ 0 → ⊥) → block_state (block (size_of N img) j img) ≡ blank

-- after j of a format's N + 10 steps, N erases and ten for the header, on an image that held these objects: the objects before the last erase,
-- no store from there to the last step but one, the empty store after the last. Where an earlier format was cut and left no store, there is
-- none before the last erase either
pub data Leaves (N : ℕ) (os : List Object) (before : List ℕ) (j : ℕ) (img : List ℕ) : Type 0 where
  old_objects : j < N → OldObjects N img os → Leaves N os before j img
  still_none : j < N → NoStore N before → NoStore N img → Leaves N os before j img
  no_store : N ≤ j → j < N + 10 → NoStore N img → Leaves N os before j img
  empty_store : j ≡ N + 10 → EmptyStore N img → Leaves N os before j img

-- for every run and every cut, before the first step and after the last too
unfoldable pub CutFormat : ℕ → Machine → Type 0
CutFormat N m =
    (img : List ℕ) (r : Record) (es : List Event) (j : ℕ) → Bytes img → allowed N (length img) ≡ true → HappensFrom N m img r es → j ≤ N + 10
    → let x : Left = left_by_of N m img r es in Leaves N x.book.objects x.image j (steps_on m j (m x.image x.board format)).image
