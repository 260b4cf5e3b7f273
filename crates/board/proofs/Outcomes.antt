-- The outcomes of every call, one equation each: what is cited, so that no definition is opened again.
use mathlib.Core.Path.{◌≡◌, refl, ap, ◌∙◌}
use mathlib.Core.List.{List, [], ◌∷◌}
use mathlib.Core.Option.{Option, none, some}
use mathlib.Core.Bool.{true, false, ◌&&◌, Bool, cond}
use Prim.Native.Nat.{ℕ, suc, ◌+◌}
use lib.Dec.{eqb, ltb, leb}
use lib.ListN.{length, get_or}
use Rattle.frame.specs.declared.Edition.TheVariants as edition
use Rattle.flash.specs.Flash.{apply, block, size_of, within}
use Rattle.frame.specs.declared.ObjectId.{ObjectId}
use Rattle.frame.specs.Frame.{host_max, Change, put, delete, Frame, change, commit, abort}
use Rattle.journal.specs.Replay.{lookup, is_open_of, Entry}
use Rattle.journal.specs.Block.{Journal, last_time, mark_writes}
use Rattle.journal.specs.Room.{no_room_of, host_full, used}
use Rattle.journal.specs.Index.{Load, next_load_of, Value}
use Rattle.wire.specs.declared.Answer.TheVariants.{Done}
use Rattle.wire.specs.declared.Refusal.TheVariants as refusal
use Rattle.wire.specs.declared.Page.TheVariants.{Summary}
use Rattle.wire.specs.declared.Request.{Request}
use Rattle.wire.specs.declared.Request.TheVariants.{Put, Delete, Commit, Abort, Read, Log, Convert}
use Rattle.std.specs.Prelude.{Some, None}
use Rattle.wire.specs.Message.{parse, of_read_kind, id_in, value_in_of, page_len, log_page, with_page}
use Rattle.flash.proofs.Cases.{on_test}
use Rattle.board.specs.declared.Stage.{Stage}
use Rattle.board.specs.declared.Stage.TheVariants.{Wipe, Open, Copy, Seal, Drop, Append, Close}
use Rattle.board.specs.declared.Phase.{Phase}
use Rattle.board.specs.declared.Phase.TheVariants.{Unmounted, Idle, Busy}
use Rattle.board.specs.declared.Record.{Record}
use Rattle.board.specs.Record.{allowed, unmounted, ending, idle, in_stage, no_stretch, out, refuse, reads_in}
use Rattle.board.specs.Step.{enter, enter_append, landed, enter_drop, loaded, enter_copy, enter_close, enter_open, enter_wipe, begin, action}
use Rattle.board.specs.Step.{next_index, next_byte, past_frame, advance, same_shape, stepped, step_busy, step_in, step_on}
use Rattle.board.specs.Mount.{all_found, Found, Store, stores, equal_times, newest, wipe_list, upkeep, transfers, mount_job, replay_of, used_of, time_of}
use Rattle.board.specs.Mount.{none_valid, lowest_tied, tied_times, mount_at, mount_stores, mount_found, mount_on, format_job, format_on}
use Rattle.board.specs.Queue.{append_job, append, serve_change, serve_end, place_of, serve_log, serve, serve_parsed, serve_held, request_in, request_on}
use Rattle.board.specs.Queue.{read_found, value_for, read_place, read_at, read_parsed, request_by}
use Rattle.board.specs.Table.{place_for}
use Rattle.board.specs.Queue.{Asking, size_for, held_for, moves_for, refuse_to, done_at, convert_job, convert, convert_with, serve_convert}
use Rattle.board.specs.Demand1.{Rests}

-- ---- a frame appended

module _ (a : Asking) (x : Journal) (f : Frame) where
  pub append_worn : (moves_for a x f && eqb x.time last_time) ≡ true → append a x f ≡ refuse_to a refusal.Worn
  unfolding append
  append_worn e = rw (e, append)

  pub append_begins : (moves_for a x f && eqb x.time last_time) ≡ false
      → append a x f ≡ begin a.image a.reply (append_job a.blocks a.image a.board x f)
  unfolding append
  append_begins e = rw (e, append)

  pub end_goes : is_open_of a.host (replay_of x).pending ≡ true → serve_end a x f ≡ append a x f
  unfolding serve_end
  end_goes e = rw (e, serve_end)

  pub end_idle : is_open_of a.host (replay_of x).pending ≡ false → serve_end a x f ≡ done_at a a.reply no_stretch
  unfolding serve_end
  end_idle e = rw (e, serve_end)

module _ (a : Asking) (x : Journal) (c : Change) where
  pub change_over : host_full x.edition (size_for a) (replay_of x) a.host c ≡ true → serve_change a x c ≡ refuse_to a refusal.HostFull
  unfolding serve_change
  change_over e = rw (e, serve_change)

  pub change_refused : host_full x.edition (size_for a) (replay_of x) a.host c ≡ false → no_room_of x.edition (size_for a) (replay_of x) a.host c ≡ true
      → serve_change a x c ≡ refuse_to a refusal.NoRoom
  unfolding serve_change
  change_refused d e = rw (d, e, serve_change)

  pub change_goes : host_full x.edition (size_for a) (replay_of x) a.host c ≡ false → no_room_of x.edition (size_for a) (replay_of x) a.host c ≡ false
      → serve_change a x c ≡ append a x (change a.host c)
  unfolding serve_change
  change_goes d e = rw (d, e, serve_change)

-- ---- a convert

module _ (a : Asking) (x : Journal) where
  pub convert_pending : (e : Entry) (es : List Entry) → (replay_of x).pending ≡ e ∷ es → serve_convert a x ≡ refuse_to a refusal.Pending
  unfolding serve_convert
  convert_pending e es p = ap (convert_with a x) p

  pub convert_refused : (replay_of x).pending ≡ [] → ltb (size_for a) (used edition.Second (replay_of x)) ≡ true
      → serve_convert a x ≡ refuse_to a refusal.NoRoom
  unfolding serve_convert
  convert_refused p e = ap (convert_with a x) p ∙ ap (λ (b : Bool). cond b (refuse_to a refusal.NoRoom) (convert a x x.edition)) e

  pub convert_goes : (replay_of x).pending ≡ [] → ltb (size_for a) (used edition.Second (replay_of x)) ≡ false
      → serve_convert a x ≡ convert a x x.edition
  unfolding serve_convert
  convert_goes p e = ap (convert_with a x) p ∙ ap (λ (b : Bool). cond b (refuse_to a refusal.NoRoom) (convert a x x.edition)) e

  pub convert_worn : eqb x.time last_time ≡ true → convert a x edition.First ≡ refuse_to a refusal.Worn
  unfolding convert
  convert_worn e = rw (e, convert)

  pub convert_begins : eqb x.time last_time ≡ false
      → convert a x edition.First ≡ begin a.image a.reply (convert_job a.blocks a.image a.board x)
  unfolding convert
  convert_begins e = rw (e, convert)

  pub convert_there : convert a x edition.Second ≡ done_at a a.reply no_stretch
  unfolding convert
  convert_there = refl

-- ---- the requests

module _ (a : Asking) (x : Journal) where
  pub log_short : ltb (length a.reply) page_len ≡ true → serve_log a x Summary ≡ refuse_to a refusal.ShortReply
  unfolding serve_log
  log_short e = rw (e, serve_log)

  pub log_done : ltb (length a.reply) page_len ≡ false
      → serve_log a x Summary
      ≡ done_at a (with_page (log_page x.time (length (replay_of x).objects) (used_of x) (size_for a)) a.reply) no_stretch
  unfolding serve_log
  log_done e = rw (e, serve_log)

  pub serve_put : (i : ObjectId) → serve a x (Put i) ≡ serve_change a x (put i (value_in_of a.message))
  unfolding serve
  serve_put i = refl

  pub serve_delete : (i : ObjectId) → serve a x (Delete i) ≡ serve_change a x (delete i)
  unfolding serve
  serve_delete i = refl

  pub serve_commit : serve a x Commit ≡ serve_end a x (commit a.host)
  unfolding serve
  serve_commit = refl

  pub serve-convert : serve a x Convert ≡ serve_convert a x
  unfolding serve
  serve-convert = refl

  pub serve_abort : serve a x Abort ≡ serve_end a x (abort a.host)
  unfolding serve
  serve_abort = refl

  pub serve-log : serve a x (Log Summary) ≡ serve_log a x Summary
  unfolding serve
  serve-log = refl

  pub read_none : (i : ObjectId) → lookup i (replay_of x).objects ≡ none → serve a x (Read i) ≡ refuse_to a refusal.NoObject
  unfolding serve
  read_none i e = rw (e, serve)

  pub read_some : (i : ObjectId) (v : List ℕ) → lookup i (replay_of x).objects ≡ some v
      → serve a x (Read i) ≡ done_at a a.reply (place_of a.blocks a.image a.board x i)
  unfolding serve
  read_some i v e = rw (e, serve)

module _ (a : Asking) where
  pub request_length : allowed a.blocks (length a.image) ≡ false → request_on a ≡ refuse_to a refusal.ImageLength
  unfolding request_on
  request_length e = rw (e, request_on)

  module _ (ok : allowed a.blocks (length a.image) ≡ true) where
    pub request_host : leb a.host.0 host_max ≡ false → request_on a ≡ refuse_to a refusal.HostRange
    unfolding request_on
    request_host e = rw (ok, e, request_on)

    module _ (e : leb a.host.0 host_max ≡ true) where
      -- the length is allowed and there is such a host
      pub request-in : {p : Phase} → a.board.phase ≡ p → request_on a ≡ request_in a p
      unfolding request_on
      request-in p = rw (ok, e, request_on) (ap (request_in a) p)

      -- a message of any kind but a read's
      module _ (k : of_read_kind a.message ≡ false) (p : a.board.phase ≡ Idle) where
        pub request_held : request_on a ≡ serve_held a (held_for a)
        request_held = request-in p ∙ ap (request_by a) k

        pub request_stale : held_for a ≡ none → request_on a ≡ refuse_to a refusal.Stale
        request_stale q = request_held ∙ ap (serve_held a) q

        pub request_malformed : (x : Journal) → held_for a ≡ some x → parse a.message ≡ None → request_on a ≡ refuse_to a refusal.Malformed
        request_malformed x q z = request_held ∙ ap (serve_held a) q ∙ ap (serve_parsed a x) z

        pub request_served : (x : Journal) (q : Request) → held_for a ≡ some x → parse a.message ≡ Some q → request_on a ≡ serve a x q
        request_served x q y z = request_held ∙ ap (serve_held a) y ∙ ap (serve_parsed a x) z

      -- a read, or what is malformed as one
      module _ (k : of_read_kind a.message ≡ true) (p : a.board.phase ≡ Idle) where
        pub request_read : request_on a ≡ read_parsed a (parse a.message)
        request_read = request-in p ∙ ap (request_by a) k

        pub read_malformed : parse a.message ≡ None → request_on a ≡ refuse_to a refusal.Malformed
        read_malformed z = request_read ∙ ap (read_parsed a) z

        pub read_placed : (q : Request) → parse a.message ≡ Some q → request_on a ≡ read_at a (id_in a.message)
        read_placed q z = request_read ∙ ap (read_parsed a) z

  -- a read by its place
  pub read_misshapen : (i : ObjectId) → same_shape a.blocks (length a.image) a.board ≡ false → read_at a i ≡ refuse_to a refusal.Stale
  unfolding read_at
  read_misshapen i e = rw (e, read_at)

  pub read_shaped : (i : ObjectId) → same_shape a.blocks (length a.image) a.board ≡ true
      → read_at a i ≡ read_place a i (get_or a.board.places i.0 0)
  unfolding read_at
  read_shaped i e = rw (e, read_at)

  pub read_absent : (i : ObjectId) (p : ℕ) → eqb p 0 ≡ true → read_place a i p ≡ refuse_to a refusal.NoObject
  unfolding read_place
  read_absent i p e = rw (e, read_place)

  pub read_there : (i : ObjectId) (p : ℕ) → eqb p 0 ≡ false → read_place a i p ≡ read_found a (value_for a i p)
  unfolding read_place
  read_there i p e = rw (e, read_place)

-- what a read by its place comes to
pub data ReadCase (a : Asking) (i : ObjectId) : Type 0 where
  misshapen : same_shape a.blocks (length a.image) a.board ≡ false → read_at a i ≡ refuse_to a refusal.Stale → ReadCase a i
  absent : same_shape a.blocks (length a.image) a.board ≡ true → eqb (place_for a i) 0 ≡ true → read_at a i ≡ refuse_to a refusal.NoObject → ReadCase a i
  lost : same_shape a.blocks (length a.image) a.board ≡ true → eqb (place_for a i) 0 ≡ false → value_for a i (place_for a i) ≡ none
      → read_at a i ≡ refuse_to a refusal.Stale → ReadCase a i
  found : (x : Value) → same_shape a.blocks (length a.image) a.board ≡ true → eqb (place_for a i) 0 ≡ false → value_for a i (place_for a i) ≡ some x
      → read_at a i ≡ read_found a (some x) → ReadCase a i

pub read_case : (a : Asking) (i : ObjectId) → ReadCase a i
read_case a i =
    on_test (same_shape a.blocks (length a.image) a.board)
    (λ t. on_test (eqb (place_for a i) 0)
    (λ z. absent t z (read_shaped a i t ∙ read_absent a i (place_for a i) z))
    (λ z. value (value_for a i (place_for a i)) refl t z))
    (λ t. misshapen t (read_misshapen a i t))
  where
    value : (o : Option Value) → value_for a i (place_for a i) ≡ o → same_shape a.blocks (length a.image) a.board ≡ true
        → eqb (place_for a i) 0 ≡ false → ReadCase a i
    value none e t z = lost t z e (read_shaped a i t ∙ read_there a i (place_for a i) z ∙ ap (read_found a) e)
    value (some x) e t z = found x t z e (read_shaped a i t ∙ read_there a i (place_for a i) z ∙ ap (read_found a) e)

-- ---- mount

pub mount-length : (N : ℕ) (img : List ℕ) → allowed N (length img) ≡ false → mount_on N img ≡ refuse refusal.ImageLength img unmounted []
unfolding mount_on
mount-length N img e = rw (e, mount_on)

module _ (N : ℕ) (img : List ℕ) (a : allowed N (length img) ≡ true) where
  pub mount-stores : mount_on N img ≡ mount_stores N img (all_found N img) (stores (all_found N img))
  unfolding mount_on mount_found
  mount-stores = rw (a, mount_on)

  pub mount_none : stores (all_found N img) ≡ [] → mount_on N img ≡ refuse (none_valid (all_found N img)) img unmounted []
  mount_none e = mount-stores ∙ ap (mount_stores N img (all_found N img)) e

  pub mount_equal : (y : Store) (ys : List Store) → stores (all_found N img) ≡ y ∷ ys → equal_times (y ∷ ys) ≡ true
      → mount_on N img ≡ refuse (tied_times (lowest_tied (y ∷ ys))) img unmounted []
  mount_equal y ys e t = mount-stores ∙ ap (mount_stores N img (all_found N img)) e ∙ rw t

  pub mount-at : (y : Store) (ys : List Store) → stores (all_found N img) ≡ y ∷ ys → equal_times (y ∷ ys) ≡ false
      → mount_on N img ≡ mount_at N img (all_found N img) (newest y ys)
  mount-at y ys e t = mount-stores ∙ ap (mount_stores N img (all_found N img)) e ∙ rw t

pub mount_worn : (N : ℕ) (img : List ℕ) (xs : List Found) (x : Store) → (transfers (upkeep (size_of N img) x) && eqb (time_of x) last_time) ≡ true
    → mount_at N img xs x ≡ refuse refusal.Worn img unmounted []
unfolding mount_at
mount_worn N img xs x e = rw (e, mount_at)

pub mount-begins : (N : ℕ) (img : List ℕ) (xs : List Found) (x : Store) → (transfers (upkeep (size_of N img) x) && eqb (time_of x) last_time) ≡ false
    → mount_at N img xs x ≡ begin img [] (mount_job N img x (wipe_list x.number xs) (upkeep (size_of N img) x))
unfolding mount_at
mount-begins N img xs x e = rw (e, mount_at)

-- ---- format

pub format-length : (N : ℕ) (img : List ℕ) → allowed N (length img) ≡ false → format_on N img ≡ refuse refusal.ImageLength img unmounted []
unfolding format_on
format-length N img e = rw (e, format_on)

pub format-begins : (N : ℕ) (img : List ℕ) → allowed N (length img) ≡ true → format_on N img ≡ begin img [] (format_job N img)
unfolding format_on
format-begins N img e = rw (e, format_on)

-- ---- step

resting_in_lem : (N : ℕ) (x : Phase) (img : List ℕ) (r : Record) → Rests x → step_in N x img r ≡ out Done img r []
resting_in_lem N Unmounted img r h = refl
resting_in_lem N Idle img r h = refl
resting_in_lem N (Busy s) img r h = absurd h

pub step-resting : (N : ℕ) (img : List ℕ) (r : Record) → Rests r.phase → step_on N img r ≡ out Done img r []
unfolding step_on
step-resting N img r h = resting_in_lem N r.phase img r h

pub step-outside : (N : ℕ) (img : List ℕ) (r : Record) (s : Stage) → r.phase ≡ Busy s
    → (same_shape N (length img) r && within N (size_of N img) (action s r)) ≡ false → step_on N img r ≡ refuse refusal.Stale img r []
unfolding step_on step_busy
step-outside N img r s p e = ap (λ (x : Phase). step_in N x img r) p ∙ rw (e, step_busy)

pub step-goes : (N : ℕ) (img : List ℕ) (r : Record) (s : Stage) → r.phase ≡ Busy s
    → (same_shape N (length img) r && within N (size_of N img) (action s r)) ≡ true
    → step_on N img r ≡ stepped (apply (size_of N img) (action s r) img) (advance N s (apply (size_of N img) (action s r) img) r)
unfolding step_on step_busy
step-goes N img r s p e = ap (λ (x : Phase). step_in N x img r) p ∙ rw (e, step_busy)

-- ---- entering a stage

pub wipe_enters : (r : Record) → ltb 0 r.job.wipes ≡ true → enter_wipe r ≡ enter Wipe r
unfolding enter_wipe
wipe_enters r e = rw (e, enter_wipe)

pub wipe_skips : (r : Record) → ltb 0 r.job.wipes ≡ false → enter_wipe r ≡ enter_open r
unfolding enter_wipe
wipe_skips r e = rw (e, enter_wipe)

pub open_enters : (r : Record) → r.job.moves ≡ true → enter_open r ≡ enter Open r
unfolding enter_open
open_enters r e = rw (e, enter_open)

pub open_skips : (r : Record) → r.job.moves ≡ false → enter_open r ≡ enter_close r
unfolding enter_open
open_skips r e = rw (e, enter_open)

pub close_enters : (r : Record) → ltb 0 r.job.closes ≡ true → enter_close r ≡ enter Close r
unfolding enter_close
close_enters r e = rw (e, enter_close)

pub close_skips : (r : Record) → ltb 0 r.job.closes ≡ false → enter_close r ≡ enter_append r
unfolding enter_close
close_skips r e = rw (e, enter_close)

abbrev pub next_for : ℕ → List ℕ → Record → Option Load
next_for N img r =
    next_load_of (reads_in r) (block (size_of N img) r.rest.block img) r.rest.end r.places r.job.since r.cursor.id r.cursor.source

pub copy_loads : (N : ℕ) (img : List ℕ) (r : Record) (u : Load) → next_for N img r ≡ some u → enter_copy N img r ≡ loaded r u
unfolding enter_copy
copy_loads N img r u e = rw (e, enter_copy)

pub copy-ends : (N : ℕ) (img : List ℕ) (r : Record) → next_for N img r ≡ none → enter_copy N img r ≡ enter Seal r
unfolding enter_copy
copy-ends N img r e = rw (e, enter_copy)

pub drop_enters : (r : Record) → r.job.drops ≡ true → enter_drop r ≡ enter Drop r
unfolding enter_drop
drop_enters r e = rw (e, enter_drop)

pub drop_skips : (r : Record) → r.job.drops ≡ false → enter_drop r ≡ enter_append (landed r)
unfolding enter_drop
drop_skips r e = rw (e, enter_drop)

pub append_enters : (r : Record) → ltb 0 r.job.size ≡ true → enter_append r ≡ enter Append r
unfolding enter_append
append_enters r e = rw (e, enter_append)

pub append_skips : (r : Record) → ltb 0 r.job.size ≡ false → enter_append r ≡ idle r.places r.rest
unfolding enter_append
append_skips r e = rw (e, enter_append)

-- ---- the record after a step: the stage's next step, or what follows the stage

module _ (N : ℕ) (img : List ℕ) (r : Record) where
  pub wipe_next : ltb (suc r.cursor.index) r.job.wipes ≡ true → advance N Wipe img r ≡ in_stage Wipe (next_index r.cursor) r
  unfolding advance
  wipe_next e = rw e

  pub wipe_last : ltb (suc r.cursor.index) r.job.wipes ≡ false → advance N Wipe img r ≡ enter_open r
  unfolding advance
  wipe_last e = rw e

  pub open_next : ltb (suc r.cursor.index) mark_writes ≡ true → advance N Open img r ≡ in_stage Open (next_index r.cursor) r
  unfolding advance
  open_next e = rw e

  pub open_last : ltb (suc r.cursor.index) mark_writes ≡ false → advance N Open img r ≡ enter_copy N img r
  unfolding advance
  open_last e = rw e

  pub copy_next : ltb (suc r.cursor.off) r.cursor.size ≡ true → advance N Copy img r ≡ in_stage Copy (next_byte r.cursor) r
  unfolding advance
  copy_next e = rw e

  pub copy_last : ltb (suc r.cursor.off) r.cursor.size ≡ false
      → advance N Copy img r ≡ enter_copy N img (in_stage Copy (past_frame r.cursor) r)
  unfolding advance
  copy_last e = rw e

  pub seal_next : ltb (suc r.cursor.index) mark_writes ≡ true → advance N Seal img r ≡ in_stage Seal (next_index r.cursor) r
  unfolding advance
  seal_next e = rw e

  pub seal_last : ltb (suc r.cursor.index) mark_writes ≡ false → advance N Seal img r ≡ enter_drop r
  unfolding advance
  seal_last e = rw e

  pub drop_last : advance N Drop img r ≡ enter_append (landed r)
  unfolding advance
  drop_last = refl

  pub append_next : ltb (suc r.cursor.index) r.job.size ≡ true → advance N Append img r ≡ in_stage Append (next_index r.cursor) r
  unfolding advance
  append_next e = rw e

  pub append_last : ltb (suc r.cursor.index) r.job.size ≡ false
      → advance N Append img r ≡ idle r.places (ending r.rest (r.rest.end + r.job.size))
  unfolding advance
  append_last e = rw e

  pub close_next : ltb (suc r.cursor.index) r.job.closes ≡ true → advance N Close img r ≡ in_stage Close (next_index r.cursor) r
  unfolding advance
  close_next e = rw e

  pub close_last : ltb (suc r.cursor.index) r.job.closes ≡ false → advance N Close img r ≡ enter_append r
  unfolding advance
  close_last e = rw e
