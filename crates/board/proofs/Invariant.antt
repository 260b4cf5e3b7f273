-- What holds of image, record and book between the calls of a run.
use mathlib.Core.Path.{◌≡◌}
use mathlib.Core.List.{List, []}
use mathlib.Core.Bool.{Bool, true}
use Prim.Native.Nat.{ℕ, suc, ◌+◌, ◌*◌, ◌≤◌, ◌<◌}
use lib.ListN.{length, get_or, take, drop, replicate}
use Rattle.frame.specs.declared.Edition.{Edition}
use Rattle.frame.specs.declared.Edition.TheVariants as edition
use Rattle.flash.specs.Bytes.{Bytes}
use Rattle.flash.specs.Flash.{Step, program, erase, apply_all, block, with_block, write}
use Rattle.flash.specs.Raised.{Raised}
use Rattle.frame.specs.declared.Host.{Host}
use Rattle.frame.specs.Frame.{host_max, delete_len, end_len, edition_number}
use Rattle.frame.specs.Reader.{clean}
use Rattle.journal.specs.Replay.{Object, Entry, list_of, State}
use Rattle.journal.specs.Block.{Journal, BlockState, blank, in_progress, valid, foreign, block_state}
use Rattle.journal.specs.Room.{open_hosts, pending_for, used}
use Rattle.journal.proofs.States.{Contents}
use Rattle.journal.proofs.Raising.{Harmless}
use Rattle.journal.proofs.Room.{kept}
use Rattle.journal.proofs.Building.{Lands}
use Rattle.wire.specs.declared.Answer.TheVariants.{Done}
use Rattle.board.specs.declared.Phase.{Phase}
use Rattle.board.specs.declared.Phase.TheVariants.{Unmounted, Idle, Busy}
use Rattle.board.specs.declared.Rest.{Rest}
use Rattle.board.specs.declared.Record.{Record}
use Rattle.board.specs.Record.{idle}
use Rattle.board.specs.Mount.{replay_of, end_of, counts_of, claimed_of, places_in}
use Rattle.board.specs.Exec.{exec}
use Rattle.board.specs.Plan.{Follows}
use Rattle.board.specs.Claim.{Track, track_step}
use Rattle.board.specs.Book.{Book, UnderWay, nothing, formatting, finishing}
use Rattle.board.proofs.Images.{Sized}

-- ---- room

-- room for a delete and its commit; a tight store has less, and nothing pending
pub data Slack (t : Bool) (s : ℕ) (ed : Edition) (st : State) : Type 0 where
  roomy : kept ed st + (delete_len ed + end_len ed) ≤ s → Slack t s ed st
  tight : t ≡ true → ed ≡ edition.Second → st.pending ≡ [] → s < used ed st + 22 → Slack t s ed st

-- ---- blocks

-- block k is valid and holds the objects, with room for a delete and its commit
pub record Valid (t : Bool) (s : ℕ) (img : List ℕ) (k : ℕ) (os : List Object) : Type 0 where
  pub journal : Journal
  pub contents : Contents (block s k img) journal
  pub room : Slack t s journal.edition (replay_of journal)
  pub same : (replay_of journal).objects ≡ os

-- a block that a mount erases: blank or in progress
abbrev pub Quiet : BlockState → Type 0
Quiet blank = Unit {0}
Quiet in_progress = Unit {0}
Quiet (valid w) = ⊥
Quiet (foreign e) = ⊥

-- every block but these
abbrev pub Others : ℕ → (ℕ → Type 0) → ℕ → Type 0
Others N P k = (j : ℕ) → j < N → (j ≡ k → ⊥) → P j

-- beside a valid block of time t: nothing that a mount takes, whatever bits a cut erase raises
abbrev pub Lesser : ℕ → List ℕ → ℕ → ℕ → Type 0
Lesser s img t j = Harmless t (block s j img)

-- beside block k, all of them; and all but one are blank: two of one time, smaller too, would be refused
pub record Lessers (N : ℕ) (s : ℕ) (img : List ℕ) (t k : ℕ) : Type 0 where
  pub older : Others N (Lesser s img t) k
  pub one : ℕ
  pub blanks : Others N (λ j. (j ≡ one → ⊥) → block s j img ≡ replicate s 255) k

-- a mount of the image finds the objects: a valid block has them, and every other is harmless; nothing at all only while a format is
-- unfinished
pub data Safe (N : ℕ) (s : ℕ) (img : List ℕ) (os : List Object) (u : Track) : Type 0 where
  no_valid : u.unfinished ≡ true → ((j : ℕ) → j < N → Quiet (block_state (block s j img))) → Safe N s img os u
  some_valid : (k : ℕ) → k < N → (v : Valid u.tight s img k os) → Lessers N s img v.journal.time k → Safe N s img os u

-- a mount finds them too where the step is an erase and is cut
abbrev pub CutSafe : ℕ → ℕ → List Object → Track → Step → List ℕ → Type 0
CutSafe N s os u (program k o v) img = Unit {0}
CutSafe N s os u (erase k) img = (new : List ℕ) → Raised (block s k img) new → Safe N s (with_block s k new img) os u

-- before a step, and inside it
abbrev pub Guard : ℕ → ℕ → List Object → Track → Step → List ℕ → Type 0
Guard N s os u x img = Safe N s img os u × CutSafe N s os u x img

-- the same where a format may be under way: a run ends with a cut inside its erases
abbrev pub GuardIn : ℕ → ℕ → List Object → Track → UnderWay → Step → List ℕ → Type 0
GuardIn N s os u w x img = Safe N s img os u × ((w ≡ formatting → ⊥) → CutSafe N s os u x img)

-- ---- an idle record

-- the image is as the record says, the book apart
pub record Ready (N : ℕ) (s : ℕ) (img : List ℕ) (r : Record) : Type 0 where
  pub stands : Rest
  pub journal : Journal
  pub is : r ≡ idle (places_in journal) stands
  pub blocks : stands.blocks ≡ N
  pub long : length img ≡ suc stands.last
  pub there : stands.block < N
  pub contents : Contents (block s stands.block img) journal
  pub is_clean : journal.tail ≡ clean
  pub ends : stands.end ≡ end_of journal
  pub counts : stands.pending ≡ counts_of journal
  pub edition_is : stands.edition ≡ edition_number journal.edition
  pub room : claimed_of journal + end_len journal.edition * open_hosts (replay_of journal).pending ≤ s
  pub others : Others N (λ j. block s j img ≡ replicate s 255) stands.block

-- K7: no host's pending frames come to more than S/2 bytes
abbrev pub Shares : ℕ → Edition → List Entry → Type 0
Shares s ed ps = (h : Host) → h.0 ≤ host_max → 2 * pending_for ed h ps ≤ s

abbrev pub Lists : List Entry → Book → Type 0
Lists ps b = (h : Host) → h.0 ≤ host_max → list_of h ps ≡ b.lists h

pub record IdleBook (N : ℕ) (s : ℕ) (u : Track) (img : List ℕ) (r : Record) (b : Book) : Type 0 where
  pub ready : Ready N s img r
  pub spare : Slack u.tight s ready.journal.edition (replay_of ready.journal)
  pub shares : Shares s ready.journal.edition (replay_of ready.journal).pending
  pub objects : (replay_of ready.journal).objects ≡ b.objects
  pub lists : Lists (replay_of ready.journal).pending b
  pub under : b.under ≡ nothing

-- ---- a record in a job: `count` steps of a plan are done on the image it began with; P holds of every step still to be done
-- and the image it is done on, Q of what the last gives
pub record InJob (N : ℕ) (s : ℕ) (P : Step → List ℕ → Type 0) (Q : List ℕ → Record → Type 0) (img : List ℕ) (r : Record) : Type 0 where
  pub start : List ℕ
  pub plan : List Step
  pub last : Record
  pub count : ℕ
  pub now : img ≡ apply_all s (take count plan) start
  pub follows : Follows N (exec N) img r (drop count plan) last
  pub begun : count < length plan
  pub each : (j : ℕ) → j < length plan → P (get_or plan j (erase 0)) (apply_all s (take j plan) start)
  pub ends : Q (apply_all s plan start) last
  pub rests : last.phase ≡ Idle

-- a programmed byte lands as given
abbrev pub StepLands : ℕ → Step → List ℕ → Type 0
StepLands s (program k o v) img = Lands (block s k img) (write o v)
StepLands s (erase k) img = Unit {0}

-- ---- between calls

abbrev pub InPhase : ℕ → Phase → ℕ → List ℕ → Record → Book → Track → Type 0
InPhase N Unmounted s img r b u = Safe N s img b.objects u × (b.under ≡ nothing)
InPhase N Idle s img r b u = IdleBook N s u img r b
InPhase N (Busy g) s img r b u = InJob N s (GuardIn N s b.objects u b.under)
    (λ i z. IdleBook N s (track_step u b.under Done) i z (finishing b b.under)) img r

pub record Inv (N : ℕ) (s : ℕ) (img : List ℕ) (r : Record) (b : Book) (u : Track) : Type 0 where
  pub sized : Sized N s img
  pub bytes : Bytes img
  pub phase : InPhase N r.phase s img r b u

-- the same without a book, for images that no run of ours left
abbrev pub Sound : ℕ → Phase → ℕ → List ℕ → Record → Type 0
Sound N Unmounted s img r = Unit {0}
Sound N Idle s img r = Ready N s img r
Sound N (Busy g) s img r = InJob N s (StepLands s) (Ready N s) img r
