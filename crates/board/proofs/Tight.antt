-- What a tight store answers, of every machine that keeps the promise.
use mathlib.Core.Path.{◌≡◌, refl, sym, ap, ap₂, subst, ◌∙◌}
use mathlib.Core.List.{List, [], ◌∷◌, ◌++◌}
use mathlib.Core.Bool.{Bool}
use mathlib.Core.Logic.{◌⊎◌, inl, inr}
use mathlib.Core.Option.{none, some}
use Prim.Native.Nat.{ℕ, ◌+◌, ◌*◌, ◌≤◌, ◌<◌, ◌/◌}
use native.Mathlib.Omega.{arith}
use lib.Dec.{ltb}
use lib.ListN.{length}
use borrow.Author.Tests.{ltb-true, ltb-false}
use Rattle.flash.specs.Flash.{size_of}
use Rattle.flash.proofs.Cases.{on_test}
use Rattle.frame.specs.declared.Edition.{Edition}
use Rattle.frame.specs.declared.Host.{Host}
use Rattle.frame.specs.declared.ObjectId.{ObjectId}
use Rattle.frame.specs.Frame.{Change, put, delete, Frame, commit, abort}
use Rattle.journal.specs.Replay.{entry, list_of, is_open_of, lookup}
use Rattle.journal.specs.Block.{Journal}
use Rattle.journal.specs.Room.{open_hosts}
use Rattle.journal.specs.Laws.{by_edition, settled_bytes, changes_bytes, pending_bytes}
use Rattle.journal.proofs.Lists.{open_none}
use Rattle.journal.proofs.ReplayLaws.{used-exact}
use Rattle.wire.specs.declared.Answer.TheVariants.{Done}
use Rattle.wire.specs.declared.Page.{Page}
use Rattle.wire.specs.declared.Request.{Request}
use Rattle.wire.specs.declared.Request.TheVariants.{Put, Delete, Commit, Abort, Read, Log, Convert}
use Rattle.wire.specs.Answer.{number_of}
use Rattle.wire.specs.Message.{value_in_of}
use Rattle.board.proofs.TablingReads.{absent_none}
use Rattle.board.specs.declared.Record.{Record}
use Rattle.board.specs.Record.{Accepted, Out, out}
use Rattle.board.specs.Mount.{replay_of, used_of, claimed_of}
use Rattle.board.specs.Queue.{Asking, asking}
use Rattle.board.specs.Exec.{Machine, request}
use Rattle.board.specs.Table.{Task, idles, task_for, end_task, Moves, second_used, Exactly, NoObject, ShortReply, NoRoom}
use Rattle.board.specs.Table.{put_needs, delete_needs, put_share, delete_share}
use Rattle.board.specs.Promise.{Promise, Answers, Serves}
use Rattle.board.specs.Tight.{AsksTight, TightGoesOn}
use Rattle.board.proofs.Answering.{number-done, whole_is}
use Rattle.board.proofs.Images.{sized_of}
use Rattle.board.proofs.Tabling.{is-allowed}
use Rattle.board.proofs.Limits.{IsChange, after_malformed, past, asks_one, still_some, over_change, full_change, full_convert, worn_out}

module _ {N : ℕ} {m : Machine} (p : Promise N m) (img : List ℕ) (r : Record) (h : Host) (msg reply : List ℕ) (x : Journal) where
  abbrev a : Asking
  a = asking N img r h msg reply

  abbrev o : Out
  o = m img r (request h msg reply)

  abbrev s : ℕ
  s = size_of N img

  module _ (q : Request) (y : AsksTight N img r h msg reply x q) where
    -- a number by the edition is the second's
    second : (i j : ℕ) → by_edition x.edition i j ≡ j
    second i j = ap (λ (d : Edition). by_edition d i j) y.is-second

    none_listed : list_of h (replay_of x).pending ≡ []
    unfolding list_of
    none_listed = ap (list_of h) y.none_pending

    share_none : changes_bytes x.edition (list_of h (replay_of x).pending) ≡ 0
    share_none = ap (changes_bytes x.edition) none_listed

    claimed_used : claimed_of x ≡ used_of x
    claimed_used =
        let e : pending_bytes x.edition (replay_of x).pending ≡ 0 = ap (pending_bytes x.edition) y.none_pending in
        omega (arith, used-exact.used_is x.edition (replay_of x), used-exact.claimed_is x.edition (replay_of x), e)

    -- one host would have something pending
    opened : (c : Change) → by_edition x.edition 6 10 * open_hosts ((replay_of x).pending ++ (entry h c ∷ [])) ≡ 10
    opened c =
        let n : open_hosts (replay_of x).pending ≡ 0 = ap open_hosts y.none_pending ∙ used-exact.open_none in
        let e : open_hosts ((replay_of x).pending ++ (entry h c ∷ [])) ≡ 1 =
        used-exact.open_first h (replay_of x).pending c y.asks.host_ok none_listed ∙ ap (λ (k : ℕ). k + 1) n in
        ap₂ (λ (b k : ℕ). b * k) (second 6 10) e

    second-used : second_used x ≡ used_of x
    second-used =
        let e : used_of x ≡ second_used x =
        used-exact.used_is x.edition (replay_of x) ∙ ap (λ (d : Edition). 16 + settled_bytes d (replay_of x).objects) y.is-second in
        sym e

    fits : used_of x ≤ s
    fits = omega (arith, claimed_used, y.asks.is_held.room)

    -- ---- what appends nothing is accepted

    no_change : task_for h msg x q ≡ idles → IsChange q → ⊥
    no_change e c = go q e c
      where
        go : (k : Request) → task_for h msg x k ≡ idles → IsChange k → ⊥
        go (Put i) f c = let w : ◌≡◌ {A = ℕ} 0 1 = cc in omega arith
        go (Delete i) f c = let w : ◌≡◌ {A = ℕ} 0 1 = cc in omega arith
        go Commit f c = c
        go Abort f c = c
        go (Read i) f c = c
        go (Log k) f c = c
        go Convert f c = c

    no_room : task_for h msg x q ≡ idles → NoRoom a → ⊥
    no_room e n = no_change e (full_change a x q y.asks n (λ f. omega (arith, full_convert a x q y.asks f n, second-used, fits)))

    accepted : task_for h msg x q ≡ idles → (NoObject a → ⊥) → (ShortReply a → ⊥) → Accepted o.answer
    accepted e n l = go (past a x q y.asks o.answer (p.calls.table img r (request h msg reply) y.asks.bytes))
      where
        go : Exactly (after_malformed a x q y.asks) o.answer → Accepted o.answer
        go (inl (k, _)) = absurd (n k)
        go (inr (_, inl (k, _))) = absurd (l k)
        go (inr (_, inr (_, inl (k, _)))) = absurd (still_some a x q y.asks k y.none_pending)
        go (inr (_, inr (_, inr (_, inl (k, _))))) = absurd (no_change e (over_change a x q y.asks k))
        go (inr (_, inr (_, inr (_, inr (_, inl (k, _)))))) = absurd (no_room e k)
        go (inr (_, inr (_, inr (_, inr (_, inr (_, inl (k, _))))))) = absurd (subst (Moves a x) e (worn_out a x q y.asks k).0)
        go (inr (_, inr (_, inr (_, inr (_, inr (_, inr (_, z))))))) = z

    served : task_for h msg x q ≡ idles → (NoObject a → ⊥) → (ShortReply a → ⊥) → Serves a x q o × (o.answer ≡ Done) × (o.board ≡ r)
    served e n l =
        let v : Serves a x q o = p.calls.serves img r h msg reply x q y.asks.bytes y.bytes y.asks.is_held y.asks.is_asked (accepted e n l) in
        let g : (number_of o.answer ≡ some 0) × (o.board ≡ r) = subst (λ (k : Task). Answers k r o) e v.answers in
        (v, number-done o.answer g.0, g.1)

    same-image : o.image ≡ img
    same-image = p.calls.one-step img r (request h msg reply)

  -- ---- each request

  -- past 12, a put of a value of n bytes needs more than is left, and a delete does
  put_tight : (i : ObjectId) → AsksTight N img r h msg reply x (Put i)
      → ((s / 2 < 12 + length (value_in_of msg)) × (number_of o.answer ≡ some 12)) ⊎ ((12 + length (value_in_of msg) ≤ s / 2) × (number_of o.answer ≡ some 7))
  put_tight i y =
      let v : List ℕ = value_in_of msg in
      let e : put_share x h v ≡ 12 + length v = omega (arith, share_none (Put i) y, second (Put i) y 8 12) in
      let share = p.share.of_put img r h msg reply x i y.asks in
      let need : s < put_needs x h i v =
      omega (arith, claimed_used (Put i) y, second (Put i) y 8 12, second (Put i) y 14 22, opened (Put i) y (put i v), y.short) in
      on_test (ltb (s / 2) (12 + length v))
      (λ t. let l = ltb-true (s / 2) (12 + length v) t in inl (l, share.1 (omega (arith, l, e))))
      (λ t.
      let l = ltb-false (s / 2) (12 + length v) t in
      inr (l, (p.room.of_put img r h msg reply x i y.asks (λ f. omega (arith, share.0 f, e, l))).1 need))

  delete_tight : (i : ObjectId) → AsksTight N img r h msg reply x (Delete i) → number_of o.answer ≡ some 7
  delete_tight i y =
      let e : delete_share x h ≡ 12 = omega (arith, share_none (Delete i) y, second (Delete i) y 8 12) in
      let share = p.share.of_delete img r h msg reply x i y.asks in
      let need : s < delete_needs x h i =
      omega (arith, claimed_used (Delete i) y, second (Delete i) y 8 12, opened (Delete i) y (delete i), y.short) in
      let l : 256 ≤ s = (sized_of N img (is-allowed N (length img) y.asks.length_ok)).low in
      (p.room.of_delete img r h msg reply x i y.asks (λ f. omega (arith, share.0 f, e, l))).1 need

  -- a commit, an abort or a convert
  ended : (q : Request) (y : AsksTight N img r h msg reply x q) → task_for h msg x q ≡ idles → ((i : ObjectId) → q ≡ Read i → ⊥)
      → ((k : Page) → q ≡ Log k → ⊥) → Serves a x q o × (o.answer ≡ Done) × (o.board ≡ r)
  ended q y e f g =
      served q y e (λ n. f n.id (asks_one a x q y.asks (Read n.id) n.is_asked))
      (λ n. g n.page (asks_one a x q y.asks (Log n.page) n.is_asked))

  none_open : (q : Request) (f : Frame) → AsksTight N img r h msg reply x q → end_task (is_open_of h (replay_of x).pending) f ≡ idles
  none_open q f y = ap (λ (b : Bool). end_task b f) (open_none h (replay_of x).pending (none_listed q y))

  commit_tight : AsksTight N img r h msg reply x Commit → o ≡ out Done img r reply
  commit_tight y =
      let v = ended Commit y (none_open Commit (commit h) y) (λ i e. let w : ◌≡◌ {A = ℕ} 0 1 = cc in omega arith)
      (λ k e. let w : ◌≡◌ {A = ℕ} 0 1 = cc in omega arith) in
      whole_is o v.1 (same-image Commit y) v.2 v.0.writes v.0.hands_back

  abort_tight : AsksTight N img r h msg reply x Abort → o ≡ out Done img r reply
  abort_tight y =
      let v = ended Abort y (none_open Abort (abort h) y) (λ i e. let w : ◌≡◌ {A = ℕ} 0 1 = cc in omega arith)
      (λ k e. let w : ◌≡◌ {A = ℕ} 0 1 = cc in omega arith) in
      whole_is o v.1 (same-image Abort y) v.2 v.0.writes v.0.hands_back

  read_tight : (i : ObjectId) → AsksTight N img r h msg reply x (Read i) → (lookup i (replay_of x).objects ≡ none → ⊥) → o.answer ≡ Done
  read_tight i y f = (served (Read i) y refl missing (λ n. let e : Read i ≡ Log n.page = asks_one a x (Read i) y.asks (Log n.page) n.is_asked in
      let w : ◌≡◌ {A = ℕ} 0 1 = cc in omega arith)).1
    where
      missing : NoObject a → ⊥
      missing n =
          let e : Read i ≡ Read n.id = asks_one a x (Read i) y.asks (Read n.id) n.is_asked in
          let g : i ≡ n.id = cc in
          f (subst (λ (j : ObjectId). lookup j (replay_of x).objects ≡ none) (sym g)
          (absent_none a x y.asks.bytes (is-allowed N (length img) y.asks.length_ok) y.asks.is_held n))

  log_tight : (k : Page) → AsksTight N img r h msg reply x (Log k) → 14 ≤ length reply → o.answer ≡ Done
  log_tight k y l =
      (served (Log k) y refl
      (λ n. let e : Log k ≡ Read n.id = asks_one a x (Log k) y.asks (Read n.id) n.is_asked in let w : ◌≡◌ {A = ℕ} 0 1 = cc in omega arith)
      (λ n. omega (arith, n.short, l))).1

pub tight-goes-on : TightGoesOn
unfolding TightGoesOn
tight-goes-on N m p =
    record {
      of_put = put_tight p;
      of_delete = delete_tight p;
      of_commit = commit_tight p;
      of_abort = abort_tight p;
      of_convert = λ img r h msg reply x y. p.converting.stays img r h msg reply x y.asks y.bytes y.none_pending y.is-second;
      of_read = read_tight p;
      of_log = log_tight p;
    }
