-- The machine refuses exactly as the table's lines say.
use mathlib.Core.Path.{◌≡◌, refl, sym, ap, ap₂, ◌∙◌, subst}
use mathlib.Core.List.{List, [], ◌∷◌, ◌++◌}
use mathlib.Core.Logic.{◌↔◌}
use mathlib.Core.Option.{Option, none, some}
use mathlib.Core.Bool.{true, not, Bool, false, ◌&&◌}
use Prim.Native.Nat.{ℕ, ◌+◌, ◌<◌}
use native.Mathlib.Omega.{arith}
use lib.Dec.{eqb, ltb}
use lib.ListN.{length}
use borrow.Author.Tests.{eqb-true, eq-eqb, ltb-true, lt-ltb}
use Rattle.flash.specs.Bytes.{Bytes}
use Rattle.flash.specs.Flash.{size_in}
use Rattle.flash.proofs.Cases.{on_test, clash, and_both, and_left, and_right}
use Rattle.frame.specs.declared.Edition.TheVariants as edition
use Rattle.frame.specs.declared.Host.{Host}
use Rattle.frame.specs.declared.ObjectId.{ObjectId}
use Rattle.frame.specs.Frame.{frame_len, host_max, put, delete, Change}
use Rattle.journal.specs.Replay.{Entry, entry}
use Rattle.journal.specs.Block.{Journal, last_time}
use Rattle.journal.specs.Room.{no_room_of, open_hosts}
use Rattle.journal.proofs.ReplayLaws.{pending-exact, used-exact}
use Rattle.wire.specs.declared.Refusal.TheVariants as refusal
use Rattle.wire.specs.declared.Request.{Request}
use Rattle.wire.specs.declared.Request.TheVariants.{Put, Delete, Commit, Abort, Read, Log, Convert}
use Rattle.wire.specs.Message.{Parsed, parse, page_len, value_in_of, of_read_kind, id_in}
use Rattle.std.specs.Prelude.{Some, None}
use Rattle.wire.specs.Sentences.{Means, MessagesExact, MalformedExact, ReadKind, ReadKindExact}
use Rattle.wire.proofs.Sentences.{messages_exact, malformed-exact, read-kind-exact, read_asked}
use Rattle.board.proofs.Reading.{one-request, no_read}
use Rattle.board.proofs.TablingReads.{placed_rows}
use Rattle.board.specs.declared.Phase.{Phase}
use Rattle.board.specs.declared.Phase.TheVariants.{Unmounted, Idle, Busy}
use Rattle.board.specs.declared.Record.{Record}
use Rattle.board.specs.Record.{allowed}
use Rattle.board.specs.Mount.{replay_of, claimed_of}
use Rattle.board.specs.Queue.{Asking, held_for, moves_for, size_for, request_on}
use Rattle.board.specs.Exec.{request, step, format, exec}
use Rattle.board.specs.Table.{is_busy, is_none, Task, idles, appends, converts, task_for, Line, line, Exactly, Allowed, InJob, Fresh, FreshFor, FreshExact}
use Rattle.board.specs.Table.{NoObject, HostFull, put_over, delete_over, ShortReply, NoRoom, for_put, for_delete, for_convert, StillPending, Worn}
use Rattle.board.specs.Table.{request_lines, lines_of, Moves, PlaceLost}
use Rattle.board.proofs.Checks.{check, is_unmounted, is_malformed, short_reply, no_room_for, worn, later_checks, host_full_for}
use Rattle.board.proofs.Checks.{held_checks, request_checks, is_some, pending_rule, from_stale}
use Rattle.board.proofs.Lines.{Tests, Rows, end, row, exactly, false-true, not_yes, not-no, not-not}
use Rattle.board.proofs.TablingSteps.{step-test}
use Rattle.board.proofs.Images.{AllowedAs, allowed_tests, allowed-from}
use Rattle.board.proofs.Freshness.{fresh-exact}
use Rattle.board.proofs.Refusals.{refused-by-table}
use Rattle.board.proofs.Editions.{put-sum, delete-sum}

-- ---- 4, 10, 5, 2

pub allowed-is : (N n : ℕ) → allowed N n ≡ true → Allowed N n
allowed-is N n t =
    let y : AllowedAs N n = allowed_tests N n t in
    record {
      at_least = y.few;
      at_most = y.most;
      long = y.short;
      size = size_in N n;
      whole = sym y.all;
      multiple = y.multiple;
      low = y.low;
    }

pub is-allowed : (N n : ℕ) → Allowed N n → allowed N n ≡ true
is-allowed N n y = allowed-from N n y.size y.at_least y.at_most y.long y.whole y.multiple y.low

pub allowed-not : (N n : ℕ) → ((Allowed N n → ⊥) → ⊥) → allowed N n ≡ true
allowed-not N n f = on_test (allowed N n) (λ t. t) (λ t. absurd (f (λ y. clash (allowed N n) (is-allowed N n y) t)))

length-test : (N n : ℕ) → Tests (not (allowed N n)) (Allowed N n → ⊥)
length-test N n =
    record { yes = λ t y. not_yes (allowed N n) t (is-allowed N n y); no = λ f. not-no (allowed N n) (λ t. f (allowed-is N n t)) }

host-test : (h : Host) → Tests (ltb host_max h.0) (3 < h.0)
host-test h = record { yes = ltb-true host_max h.0; no = lt-ltb host_max h.0 }

busy-test : (p : Phase) → Tests (is_busy p) (InJob p)
busy-test Unmounted = record { yes = λ e. false-true e; no = λ y. absurd y }
busy-test Idle = record { yes = λ e. false-true e; no = λ y. absurd y }
busy-test (Busy s) = record { yes = λ e. tt; no = λ y. refl }

unmounted-test : (p : Phase) → Tests (is_unmounted p) (p ≡ Unmounted)
unmounted-test Unmounted = record { yes = λ e. refl; no = λ y. refl }
unmounted-test Idle = record { yes = λ e. false-true e; no = λ y. let w : ◌≡◌ {A = ℕ} 0 1 = cc in absurd (omega arith) }
unmounted-test (Busy s) = record { yes = λ e. false-true e; no = λ y. let w : ◌≡◌ {A = ℕ} 0 1 = cc in absurd (omega arith) }

-- ---- requests

none-some : {A : Type 0} {P : Type 0} {x : A} → none ≡ some x → P
none-some e = let w : ◌≡◌ {A = ℕ} 0 1 = cc in absurd (omega arith)

some-held : {x y : Journal} → some x ≡ some y → x ≡ y
some-held e = cc

-- an image read afresh holds one thing
module _ (N : ℕ) (img : List ℕ) (r : Record) (by : Bytes img) (ok : allowed N (length img) ≡ true) where
  pub same_held : (x y : Journal) → Fresh N img r x → Fresh N img r y → x ≡ y
  unfolding FreshExact
  same_held x y a b = some-held (sym ((fresh-exact N img r x by ok).1 a) ∙ (fresh-exact N img r y by ok).1 b)

module _ (a : Asking) (by : Bytes a.image) (ok : allowed a.blocks (length a.image) ≡ true) where
  same_for : (x y : Journal) → FreshFor a x → FreshFor a y → x ≡ y
  same_for = same_held a.blocks a.image a.board by ok

  fresh_for : (x : Journal) → (held_for a ≡ some x) ↔ FreshFor a x
  unfolding FreshExact
  fresh_for x = fresh-exact a.blocks a.image a.board x by ok

  no_read_means : of_read_kind a.message ≡ false → (i : ObjectId) → Means a.message (Read i) → ⊥
  unfolding MessagesExact
  no_read_means k i w = no_read a.message k i ((messages_exact a.message (Read i)).1 w)

  kind_test : Tests (of_read_kind a.message) (ReadKind a.message)
  unfolding ReadKindExact
  kind_test = record { yes = (read-kind-exact a.message).0; no = (read-kind-exact a.message).1 }

  -- of a message of any other kind than a read's
  stale_test : (b : Bool) (o : Option Journal) → Tests b (ReadKind a.message) → held_for a ≡ o
      → Tests (not b && is_none o) ((ReadKind a.message → ⊥) × ((x : Journal) → FreshFor a x → ⊥))
  stale_test true o k e = record { yes = λ t. false-true t; no = λ f. absurd (f.0 (k.yes refl)) }
  stale_test false none k e = record { yes = λ t. (λ y. false-true (k.no y), λ x y. none-some (sym e ∙ (fresh_for x).1 y)); no = λ f. refl }
  stale_test false (some x) k e = record { yes = λ t. false-true t; no = λ f. absurd (f.1 x ((fresh_for x).0 e)) }

  malformed_test : (p : Parsed) → parse a.message ≡ p → Tests (is_malformed p) ((q : Request) → Means a.message q → ⊥)
  unfolding MessagesExact MalformedExact
  malformed_test None e = record { yes = λ t. (malformed-exact a.message).0 e; no = λ f. refl }
  malformed_test (Some q) e = record { yes = λ t. false-true t; no = λ f. absurd (f q ((messages_exact a.message q).0 e)) }

  module _ (x : Journal) (q : Request) (fresh : FreshFor a x) (means : Means a.message q) where
    short_test : Tests (short_reply a q) (ShortReply a)
    short_test =
        record {
          yes = λ t. there q means t;
          no = λ y. ap (short_reply a) (one-request a.message q (Log y.page) means y.is_asked) ∙ lt-ltb (length a.reply) page_len y.short;
        }
      where
        there : (s : Request) → Means a.message s → short_reply a s ≡ true → ShortReply a
        there (Put i) k t = false-true t
        there (Delete i) k t = false-true t
        there Commit k t = false-true t
        there Abort k t = false-true t
        there (Read i) k t = false-true t
        there (Log p) k t = record { page = p; is_asked = k; short = ltb-true (length a.reply) page_len t }
        there Convert k t = false-true t

    pending_test : Tests (pending_rule x q) (StillPending a)
    pending_test =
        record {
          yes = λ t. there q means t;
          no = λ y.
              ap₂ pending_rule (same_for x y.holding fresh y.is_held) (one-request a.message q Convert means y.is_asked)
              ∙ some_there (replay_of y.holding).pending y.some_pending;
        }
      where
        some_there : (es : List Entry) → (es ≡ [] → ⊥) → is_some es ≡ true
        some_there [] n = absurd (n refl)
        some_there (e ∷ es) n = refl

        there : (s : Request) → Means a.message s → pending_rule x s ≡ true → StillPending a
        there (Put i) k t = false-true t
        there (Delete i) k t = false-true t
        there Commit k t = false-true t
        there Abort k t = false-true t
        there (Read i) k t = false-true t
        there (Log p) k t = false-true t
        there Convert k t =
            record { holding = x; is_held = fresh; is_asked = k; some_pending = λ e. false-true (sym (ap is_some e) ∙ t) }

    room_test : Tests (no_room_for a x q) (NoRoom a)
    unfolding no_room_of
    room_test = record { yes = λ t. full q means t; no = λ y. asks y }
      where
        opens : Journal → Change → ℕ
        opens w c = open_hosts ((replay_of w).pending ++ (entry a.host c ∷ []))

        v : List ℕ
        v = value_in_of a.message

        full : (s : Request) → Means a.message s → no_room_for a x s ≡ true → NoRoom a
        full (Put i) k t =
            for_put x i fresh k (omega (arith, ltb-true (size_for a) _ t, put-sum x.edition a.host i v (claimed_of x) (opens x (put i v))))
        full (Delete i) k t =
            for_delete x i fresh k (omega (arith, ltb-true (size_for a) _ t, delete-sum x.edition a.host i (claimed_of x) (opens x (delete i))))
        full Commit k t = false-true t
        full Abort k t = false-true t
        full (Read i) k t = false-true t
        full (Log p) k t = false-true t
        full Convert k t = for_convert x fresh k (omega (arith, ltb-true (size_for a) _ t, used-exact.used_is edition.Second (replay_of x)))

        asks : NoRoom a → no_room_for a x q ≡ true
        asks (for_put y i f k l) =
            ap₂ (no_room_for a) (same_for x y fresh f) (one-request a.message q (Put i) means k)
            ∙ lt-ltb (size_for a) _ (omega (arith, l, put-sum y.edition a.host i v (claimed_of y) (opens y (put i v))))
        asks (for_delete y i f k l) =
            ap₂ (no_room_for a) (same_for x y fresh f) (one-request a.message q (Delete i) means k)
            ∙ lt-ltb (size_for a) _ (omega (arith, l, delete-sum y.edition a.host i (claimed_of y) (opens y (delete i))))
        asks (for_convert y f k l) =
            ap₂ (no_room_for a) (same_for x y fresh f) (one-request a.message q Convert means k)
            ∙ lt-ltb (size_for a) _ (omega (arith, l, used-exact.used_is edition.Second (replay_of y)))

    share_test : Tests (host_full_for a x q) (HostFull a)
    share_test = record { yes = λ t. over q means t; no = λ y. asks y }
      where
        over : (s : Request) → Means a.message s → host_full_for a x s ≡ true → HostFull a
        over (Put i) k t = put_over x i fresh k ((pending-exact.full_is x.edition (size_for a) x.frames a.host (put i (value_in_of a.message))).0 t)
        over (Delete i) k t = delete_over x i fresh k ((pending-exact.full_is x.edition (size_for a) x.frames a.host (delete i)).0 t)
        over Commit k t = false-true t
        over Abort k t = false-true t
        over (Read i) k t = false-true t
        over (Log p) k t = false-true t
        over Convert k t = false-true t

        asks : HostFull a → host_full_for a x q ≡ true
        asks (put_over y i f k l) =
            ap₂ (host_full_for a) (same_for x y fresh f) (one-request a.message q (Put i) means k)
            ∙ (pending-exact.full_is y.edition (size_for a) y.frames a.host (put i (value_in_of a.message))).1 l
        asks (delete_over y i f k l) =
            ap₂ (host_full_for a) (same_for x y fresh f) (one-request a.message q (Delete i) means k)
            ∙ (pending-exact.full_is y.edition (size_for a) y.frames a.host (delete i)).1 l

    worn_test : Tests (worn a x (task_for a.host a.message x q)) (Worn a)
    worn_test =
        record {
          yes = λ t.
              record {
                holding = x;
                asked = q;
                is_held = fresh;
                is_asked = means;
                moves = over (task_for a.host a.message x q) t;
                last-time = eqb-true x.time last_time (last (task_for a.host a.message x q) t);
              };
          no = λ y.
              ap₂ (λ (z : Journal) (s : Request). worn a z (task_for a.host a.message z s)) (same_for x y.holding fresh y.is_held)
              (one-request a.message q y.asked means y.is_asked)
              ∙ due y.holding (task_for a.host a.message y.holding y.asked) y.moves (eq-eqb y.holding.time last_time y.last-time);
        }
      where
        over : (t : Task) → worn a x t ≡ true → Moves a x t
        over idles e = false-true e
        over (appends f) e = ltb-true (size_for a) (a.board.rest.end + frame_len x.edition f) (and_left (moves_for a x f) (eqb x.time last_time) e)
        over converts e = tt

        last : (t : Task) → worn a x t ≡ true → eqb x.time last_time ≡ true
        last idles e = false-true e
        last (appends f) e = and_right (moves_for a x f) (eqb x.time last_time) e
        last converts e = e

        due : (w : Journal) (t : Task) → Moves a w t → eqb w.time last_time ≡ true → worn a w t ≡ true
        due w idles m e = absurd m
        due w (appends f) m e =
            and_both (moves_for a w f) (eqb w.time last_time) (lt-ltb (size_for a) (a.board.rest.end + frame_len w.edition f) m) e
        due w converts m e = e

    -- it is no read
    lost_test : of_read_kind a.message ≡ false → Tests false (PlaceLost a)
    lost_test k = record { yes = λ t. false-true t; no = λ y. absurd (no_read_means k y.id y.is_asked) }

    absent_test : of_read_kind a.message ≡ false → Tests false (NoObject a)
    absent_test k = record { yes = λ t. false-true t; no = λ y. absurd (no_read_means k y.id y.is_asked) }

    held_rows : of_read_kind a.message ≡ false → Rows (held_checks a x q)
        (line 11 (PlaceLost a) ∷ line 8 (NoObject a) ∷ line 9 (ShortReply a) ∷ line 16 (StillPending a) ∷ line 12 (HostFull a) ∷ line 7 (NoRoom a) ∷ line 6 (Worn a) ∷ [])
    held_rows k =
        row refusal.Stale (lost_test k) (λ _.
        row refusal.NoObject (absent_test k) (λ _.
        row refusal.ShortReply short_test (λ _.
        row refusal.Pending pending_test (λ _.
        row refusal.HostFull share_test (λ _.
        row refusal.NoRoom room_test (λ _.
        row refusal.Worn worn_test (λ _. end)))))))

  abbrev read_lines : List Line
  read_lines =
      line 11 (PlaceLost a) ∷ line 8 (NoObject a) ∷ line 9 (ShortReply a) ∷ line 16 (StillPending a) ∷ line 12 (HostFull a) ∷ line 7 (NoRoom a)
      ∷ line 6 (Worn a) ∷ []

  abbrev last_lines : List Line
  last_lines = line 1 ((q : Request) → Means a.message q → ⊥) ∷ read_lines

  parsed_rows : of_read_kind a.message ≡ false → (x : Journal) → FreshFor a x → (p : Parsed) → parse a.message ≡ p
      → Rows (check refusal.Malformed (is_malformed p) ∷ later_checks a false (some x) p) last_lines
  unfolding MessagesExact
  parsed_rows k x f None e = row refusal.Malformed (malformed_test None e) (λ t. false-true (sym t))
  parsed_rows k x f (Some q) e = row refusal.Malformed (malformed_test (Some q) e) (λ _. held_rows x q f ((messages_exact a.message q).0 e) k)

  stale_rows : of_read_kind a.message ≡ false → Tests false (ReadKind a.message) → (o : Option Journal) → held_for a ≡ o
      → Rows (from_stale a false o (parse a.message)) (line 11 ((ReadKind a.message → ⊥) × ((x : Journal) → FreshFor a x → ⊥)) ∷ last_lines)
  stale_rows k t none e = row refusal.Stale (stale_test false none t e) (λ t. false-true (sym t))
  stale_rows k t (some x) e = row refusal.Stale (stale_test false (some x) t e) (λ _. parsed_rows k x ((fresh_for x).0 e) (parse a.message) refl)

  read_rows : of_read_kind a.message ≡ true → (p : Parsed) → parse a.message ≡ p
      → Rows (check refusal.Malformed (is_malformed p) ∷ later_checks a true (held_for a) p) last_lines
  unfolding MessagesExact ReadKindExact
  read_rows k None e = row refusal.Malformed (malformed_test None e) (λ t. false-true (sym t))
  read_rows k (Some q) e =
      let w : Means a.message q = (messages_exact a.message q).0 e in
      row refusal.Malformed (malformed_test (Some q) e)
      (λ _. placed_rows a (id_in a.message) (subst (Means a.message) (read_asked a.message q w ((read-kind-exact a.message).0 k)) w))

  kind_rows : (b : Bool) → of_read_kind a.message ≡ b → Tests b (ReadKind a.message)
      → Rows (from_stale a b (held_for a) (parse a.message)) (line 11 ((ReadKind a.message → ⊥) × ((x : Journal) → FreshFor a x → ⊥)) ∷ last_lines)
  kind_rows true k t = row refusal.Stale (stale_test true (held_for a) t refl) (λ _. read_rows k (parse a.message) refl)
  kind_rows false k t = stale_rows k t (held_for a) refl

request-rows : (a : Asking) → Bytes a.image → Rows (request_checks a) (request_lines a)
request-rows a by =
    row refusal.ImageLength (length-test a.blocks (length a.image)) (λ n.
    row refusal.HostRange (host-test a.host) (λ _.
    row refusal.Busy (busy-test a.board.phase) (λ _.
    row refusal.NoStore (unmounted-test a.board.phase) (λ _.
    kind_rows a by (not-not (allowed a.blocks (length a.image)) n) (of_read_kind a.message) refl
    (kind_test a by (not-not (allowed a.blocks (length a.image)) n))))))

-- ---- the lines

pub request_lines_lem : (a : Asking) → Bytes a.image → Exactly (request_lines a) (request_on a).answer
request_lines_lem a by =
    exactly (request-rows a by) (request_on a).answer
    (refused-by-table a.blocks a.image a.board (request a.host a.message a.reply))

pub step_lines : {N : ℕ} (img : List ℕ) (r : Record) → Exactly (lines_of N img r step) (exec N img r step).answer
step_lines {N} img r = exactly (row refusal.Stale (step-test img r r.phase refl) (λ _. end)) (exec N img r step).answer (refused-by-table N img r step)

pub format_lines : {N : ℕ} (img : List ℕ) (r : Record) → Exactly (lines_of N img r format) (exec N img r format).answer
format_lines {N} img r =
    exactly (row refusal.ImageLength (length-test N (length img)) (λ _. end)) (exec N img r format).answer (refused-by-table N img r format)
