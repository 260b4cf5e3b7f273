-- Demand 2: every image reads as one store or is refused by number; every programmed byte is the one the rules call for; programming
-- only clears bits; refusals for room and wear are exact.
use Rattle.std.specs.Prelude.{List, [], ◌∷◌, ◌⊎◌, ◌↔◌, true, ◌≡◌, ℕ, ◌+◌, ◌*◌, ◌≤◌, ◌<◌, ◌/◌, length, get_or}
use Rattle.std.proofs.Math.Option.{some}
use Rattle.flash.specs.Bytes.{Bytes}
use Rattle.flash.specs.Flash.{Step, program, erase, apply, apply_all, block, size_of, with_block}
use Rattle.frame.specs.declared.Edition.TheVariants as edition
use Rattle.frame.specs.declared.Host.{Host}
use Rattle.frame.specs.declared.ObjectId.{ObjectId}
use Rattle.journal.specs.Replay.{settled_only}
use Rattle.frame.specs.Frame.{total}
use Rattle.frame.specs.Reader.{cut}
use Rattle.journal.specs.Block.{Journal, valid, block_state, header_len, state_at, in_transfer}
use Rattle.wire.specs.declared.Request.TheVariants.{Put, Delete, Commit, Abort, Convert}
use Rattle.wire.specs.declared.Request.{Request}
use Rattle.wire.specs.declared.Answer.TheVariants.{Done, More}
use Rattle.wire.specs.Answer.{number_of}
use Rattle.wire.specs.Message.{value_in_of}
use Rattle.board.specs.declared.Phase.TheVariants.{Idle}
use Rattle.board.specs.declared.Record.{Record}
pub use Rattle.board.specs.Record.{Accepted}
use Rattle.board.specs.Record.{Out, out, allowed}
use Rattle.board.specs.Mount.{Store, replay_of, time_of}
use Rattle.board.specs.Queue.{Asking, asking}
use Rattle.board.specs.Exec.{request, mount, format, Machine}
use Rattle.board.specs.Plan.{Performs, programs, mount_work}
use Rattle.board.specs.Table.{idles, task_for, Moves, second_used, Allowed, Fresh, FreshFor, put_needs, delete_needs, put_share, delete_share}
use Rattle.wire.specs.Sentences.{Means}
use Rattle.board.specs.Book.{Book}
use Rattle.board.specs.Claim.{Event, call, cut_erase, Happens}

-- ---- every image reads as one store

-- the store that an accepted mount takes: a valid block, newer than every other valid one; its plan is the papers', and leaves a block
-- that replays to its settled objects and nothing pending. Image and record then pass line 11 of the table: the store can be used
pub record Mounts (N : ℕ) (m : Machine) (img : List ℕ) (o : Out) : Type 0 where
  pub store : Store
  pub there : store.number < N
  pub is-valid : block_state (block (size_of N img) store.number img) ≡ valid store.journal
  pub newest : (k : ℕ) (x : Journal) → k < N → (k ≡ store.number → ⊥)
      → block_state (block (size_of N img) k img) ≡ valid x → x.time < time_of store
  pub follows : Performs N m img o.board (mount_work N img store)
  -- K14: "Demand 1's bound leaves a mount's erases aside"; of those there are at most N
  pub short : length (programs (mount_work N img store).steps) ≤ size_of N img
  pub erases : length (mount_work N img store).steps ≤ length (programs (mount_work N img store).steps) + N
  pub holding : Journal
  pub is_fresh : Fresh N (apply_all (size_of N img) (mount_work N img store).steps img) (mount_work N img store).last holding
  pub holds : replay_of holding ≡ settled_only (replay_of store.journal)

-- the refusals of a mount, and their exact conditions, are the table's lines
unfoldable pub OneStore : ℕ → Machine → Type 0
OneStore N m =
    (img : List ℕ) (r : Record) → Bytes img → allowed N (length img) ≡ true → Accepted (m img r mount).answer → Mounts N m img (m img r mount)

-- ---- every run from a mount or a format on, accepted or not, of any image of an allowed length, whoever wrote it

-- P of each call; calls that each got what the last gave back, and cuts inside erases
abbrev pub EachCall : ℕ → Machine → (List ℕ → Out → Type 0) → List ℕ → Record → List Event → Type 0
EachCall N m P img r [] = Unit {0}
EachCall N m P img r (call c ∷ es) = let o : Out = m img r c in P img o × EachCall N m P o.image o.board es
EachCall N m P img r (cut_erase k new q ∷ es) = EachCall N m P (with_block (size_of N img) k new img) q es

-- whatever a book says
pub record FromAny (N : ℕ) (m : Machine) (P : List ℕ → Out → Type 0) : Type 0 where
  pub from_mount : (img : List ℕ) (r : Record) (b : Book) (es : List Event) → Bytes img → allowed N (length img) ≡ true
      → Happens N m img (m img r mount).board b es → EachCall N m P img (m img r mount).board es
  pub from_format : (img : List ℕ) (r : Record) (b : Book) (es : List Event) → Bytes img → allowed N (length img) ≡ true
      → Happens N m img (m img r format).board b es → EachCall N m P img (m img r format).board es

-- what a mount or format leaves can be used: no call after it gets 11
abbrev pub NotStale : Out → Type 0
NotStale o = number_of o.answer ≡ some 11 → ⊥

abbrev pub UsableFrom : ℕ → Machine → Type 0
UsableFrom N m = FromAny N m (λ img o. NotStale o)

-- ---- every programmed byte lands as given

-- document 02, K11: "kind to 0x0000 low byte first": the kind's low byte of a torn tail of block k goes to 0
pub record ClosesKind (s k o v : ℕ) (img : List ℕ) : Type 0 where
  pub journal : Journal
  pub long : ℕ
  pub is-valid : block_state (block s k img) ≡ valid journal
  pub is-torn : journal.tail ≡ cut long
  pub at_kind : o ≡ header_len + total journal.edition journal.frames + 2
  pub to_zero : v ≡ 0

-- the place was 0xFF, or is byte 8 and was 0xFE, or is closed; afterwards it holds the byte given
abbrev pub LandsAt : ℕ → Step → List ℕ → Type 0
LandsAt s (program k o v) img =
    ((get_or img (k * s + o) 0 ≡ 255) ⊎ (((o ≡ state_at) × (get_or img (k * s + o) 0 ≡ in_transfer)) ⊎ ClosesKind s k o v img))
    × (get_or (apply s (program k o v) img) (k * s + o) 0 ≡ v)
LandsAt s (erase k) img = Unit {0}

-- a call changes nothing, or does one step that lands
abbrev pub StepLands : ℕ → List ℕ → Out → Type 0
StepLands N img o = (o.image ≡ img) ⊎ ((x : Step) × (o.image ≡ apply (size_of N img) x img) × LandsAt (size_of N img) x img)

abbrev pub LandsFrom : ℕ → Machine → Type 0
LandsFrom N m = FromAny N m (StepLands N)

-- ---- room and wear

-- a request that no line of the table before 8 refuses, where the image read afresh holds x and the message means q
pub record Asks (a : Asking) (x : Journal) (q : Request) : Type 0 where
  pub bytes : Bytes a.image
  pub length_ok : Allowed a.blocks (length a.image)
  pub host_ok : a.host.0 ≤ 3
  pub is_idle : a.board.phase ≡ Idle
  pub is_held : FreshFor a x
  pub is_asked : Means a.message q

-- K7: 12 "exactly if that host's pending frames would come to more than S/2 bytes"; of a put or delete alone
pub record ShareExact (N : ℕ) (m : Machine) : Type 0 where
  pub of_put : (img : List ℕ) (r : Record) (h : Host) (msg reply : List ℕ) (x : Journal) (i : ObjectId) → Asks (asking N img r h msg reply) x (Put i)
      → (number_of (m img r (request h msg reply)).answer ≡ some 12)
      ↔ (size_of N img / 2 < put_share x h (value_in_of msg))
  pub of_delete : (img : List ℕ) (r : Record) (h : Host) (msg reply : List ℕ) (x : Journal) (i : ObjectId)
      → Asks (asking N img r h msg reply) x (Delete i) → (number_of (m img r (request h msg reply)).answer ≡ some 12)
      ↔ (size_of N img / 2 < delete_share x h)
  pub of_commit : (img : List ℕ) (r : Record) (h : Host) (msg reply : List ℕ) (x : Journal) → Asks (asking N img r h msg reply) x Commit
      → number_of (m img r (request h msg reply)).answer ≡ some 12 → ⊥
  pub of_abort : (img : List ℕ) (r : Record) (h : Host) (msg reply : List ℕ) (x : Journal) → Asks (asking N img r h msg reply) x Abort
      → number_of (m img r (request h msg reply)).answer ≡ some 12 → ⊥

-- past 12: "a put is refused exactly if C + n + 6·open + 14 > S, a delete exactly if C + 8 + 6·open > S. Commit and abort are never refused for room."
pub record RoomExact (N : ℕ) (m : Machine) : Type 0 where
  pub of_put : (img : List ℕ) (r : Record) (h : Host) (msg reply : List ℕ) (x : Journal) (i : ObjectId) → Asks (asking N img r h msg reply) x (Put i)
      → (number_of (m img r (request h msg reply)).answer ≡ some 12 → ⊥) → (number_of (m img r (request h msg reply)).answer ≡ some 7)
      ↔ (size_of N img < put_needs x h i (value_in_of msg))
  pub of_delete : (img : List ℕ) (r : Record) (h : Host) (msg reply : List ℕ) (x : Journal) (i : ObjectId)
      → Asks (asking N img r h msg reply) x (Delete i) → (number_of (m img r (request h msg reply)).answer ≡ some 12 → ⊥)
      → (number_of (m img r (request h msg reply)).answer ≡ some 7)
      ↔ (size_of N img < delete_needs x h i)
  pub of_commit : (img : List ℕ) (r : Record) (h : Host) (msg reply : List ℕ) (x : Journal) → Asks (asking N img r h msg reply) x Commit
      → number_of (m img r (request h msg reply)).answer ≡ some 7 → ⊥
  pub of_abort : (img : List ℕ) (r : Record) (h : Host) (msg reply : List ℕ) (x : Journal) → Asks (asking N img r h msg reply) x Abort
      → number_of (m img r (request h msg reply)).answer ≡ some 7 → ⊥

-- past 16, 12 and the room rule, 6 exactly if the request needs a transfer at the last time
unfoldable pub WearExact : ℕ → Machine → Type 0
WearExact N m =
    (img : List ℕ) (r : Record) (h : Host) (msg reply : List ℕ) (x : Journal) (q : Request) → Asks (asking N img r h msg reply) x q
    → (task_for h msg x q ≡ idles → ⊥) → (number_of (m img r (request h msg reply)).answer ≡ some 16 → ⊥)
    → (number_of (m img r (request h msg reply)).answer ≡ some 12 → ⊥) → (number_of (m img r (request h msg reply)).answer ≡ some 7 → ⊥)
    → (number_of (m img r (request h msg reply)).answer ≡ some 6) ↔ (Moves (asking N img r h msg reply) x (task_for h msg x q) × (x.time ≡ 4294967295))

-- ---- converts

-- K9: "A convert request (0x0108, no body) gets a new 16 if anything is pending, then 7 exactly if U in edition 2 exceeds S; else a transfer takes the
-- store to edition 2, or 0 steps do if it is there." 16 goes to nothing else
pub record ConvertAnswers (N : ℕ) (m : Machine) : Type 0 where
  pub pending : (img : List ℕ) (r : Record) (h : Host) (msg reply : List ℕ) (x : Journal) → Asks (asking N img r h msg reply) x Convert
      → (number_of (m img r (request h msg reply)).answer ≡ some 16) ↔ ((replay_of x).pending ≡ [] → ⊥)
  pub room : (img : List ℕ) (r : Record) (h : Host) (msg reply : List ℕ) (x : Journal) → Asks (asking N img r h msg reply) x Convert
      → (replay_of x).pending ≡ [] → (number_of (m img r (request h msg reply)).answer ≡ some 7) ↔ (size_of N img < second_used x)
  pub moves : (img : List ℕ) (r : Record) (h : Host) (msg reply : List ℕ) (x : Journal) → Asks (asking N img r h msg reply) x Convert → Bytes msg
      → (replay_of x).pending ≡ [] → second_used x ≤ size_of N img → x.edition ≡ edition.First → (x.time ≡ 4294967295 → ⊥)
      → (m img r (request h msg reply)).answer ≡ More
  pub stays : (img : List ℕ) (r : Record) (h : Host) (msg reply : List ℕ) (x : Journal) → Asks (asking N img r h msg reply) x Convert → Bytes msg
      → (replay_of x).pending ≡ [] → x.edition ≡ edition.Second → m img r (request h msg reply) ≡ out Done img r reply
  pub others : (img : List ℕ) (r : Record) (h : Host) (msg reply : List ℕ) (x : Journal) (q : Request) → Asks (asking N img r h msg reply) x q
      → (q ≡ Convert → ⊥) → number_of (m img r (request h msg reply)).answer ≡ some 16 → ⊥
