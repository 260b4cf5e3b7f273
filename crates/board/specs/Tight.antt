-- A store of edition 2 that a convert left with less than a delete and its commit need: our word for it is tight. What it answers, of every machine that
-- keeps the promise: puts and deletes are refused, everything else goes on.
use Rattle.std.specs.Prelude.{List, [], ◌⊎◌, ◌≡◌, ℕ, ◌+◌, ◌≤◌, ◌<◌, ◌/◌, length}
use Rattle.std.proofs.Math.Option.{none, some}
use Rattle.flash.specs.Bytes.{Bytes}
use Rattle.flash.specs.Flash.{size_of}
use Rattle.frame.specs.declared.Edition.TheVariants as edition
use Rattle.frame.specs.declared.Host.{Host}
use Rattle.frame.specs.declared.ObjectId.{ObjectId}
use Rattle.journal.specs.Replay.{lookup}
use Rattle.journal.specs.Block.{Journal}
use Rattle.wire.specs.declared.Answer.TheVariants.{Done}
use Rattle.wire.specs.declared.Page.{Page}
use Rattle.wire.specs.declared.Request.{Request}
use Rattle.wire.specs.declared.Request.TheVariants.{Put, Delete, Commit, Abort, Read, Log, Convert}
use Rattle.wire.specs.Answer.{number_of}
use Rattle.wire.specs.Message.{value_in_of}
use Rattle.board.specs.declared.Record.{Record}
use Rattle.board.specs.Record.{out}
use Rattle.board.specs.Mount.{replay_of, used_of}
use Rattle.board.specs.Queue.{asking}
use Rattle.board.specs.Exec.{Machine, request}
use Rattle.board.specs.Demand2.{Asks}
use Rattle.board.specs.Promise.{Promise}

-- the request is asked of such a store: "12 for the delete, 10 for each 6" come to more than is left
pub record AsksTight (N : ℕ) (img : List ℕ) (r : Record) (h : Host) (msg reply : List ℕ) (x : Journal) (q : Request) : Type 0 where
  pub asks : Asks (asking N img r h msg reply) x q
  pub bytes : Bytes msg
  pub is-second : x.edition ≡ edition.Second
  pub none_pending : (replay_of x).pending ≡ []
  pub short : size_of N img < used_of x + 22

pub record TightAnswers (N : ℕ) (m : Machine) : Type 0 where
  -- 12 goes before 7, to a value that alone is over half a block
  pub of_put : (img : List ℕ) (r : Record) (h : Host) (msg reply : List ℕ) (x : Journal) (i : ObjectId) → AsksTight N img r h msg reply x (Put i)
      → ((size_of N img / 2 < 12 + length (value_in_of msg)) × (number_of (m img r (request h msg reply)).answer ≡ some 12))
      ⊎ ((12 + length (value_in_of msg) ≤ size_of N img / 2) × (number_of (m img r (request h msg reply)).answer ≡ some 7))
  pub of_delete : (img : List ℕ) (r : Record) (h : Host) (msg reply : List ℕ) (x : Journal) (i : ObjectId) → AsksTight N img r h msg reply x (Delete i)
      → number_of (m img r (request h msg reply)).answer ≡ some 7
  pub of_commit : (img : List ℕ) (r : Record) (h : Host) (msg reply : List ℕ) (x : Journal) → AsksTight N img r h msg reply x Commit
      → m img r (request h msg reply) ≡ out Done img r reply
  pub of_abort : (img : List ℕ) (r : Record) (h : Host) (msg reply : List ℕ) (x : Journal) → AsksTight N img r h msg reply x Abort
      → m img r (request h msg reply) ≡ out Done img r reply
  pub of_convert : (img : List ℕ) (r : Record) (h : Host) (msg reply : List ℕ) (x : Journal) → AsksTight N img r h msg reply x Convert
      → m img r (request h msg reply) ≡ out Done img r reply
  pub of_read : (img : List ℕ) (r : Record) (h : Host) (msg reply : List ℕ) (x : Journal) (i : ObjectId) → AsksTight N img r h msg reply x (Read i)
      → (lookup i (replay_of x).objects ≡ none → ⊥) → (m img r (request h msg reply)).answer ≡ Done
  pub of_log : (img : List ℕ) (r : Record) (h : Host) (msg reply : List ℕ) (x : Journal) (p : Page) → AsksTight N img r h msg reply x (Log p)
      → 14 ≤ length reply → (m img r (request h msg reply)).answer ≡ Done

unfoldable pub TightGoesOn : Type 0
TightGoesOn = (N : ℕ) (m : Machine) → Promise N m → TightAnswers N m
