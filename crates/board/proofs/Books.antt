-- The book beside replay: what an accepted request's frame does to both.
use mathlib.Core.Path.{◌≡◌, refl, sym, ap, subst, ◌∙◌, subst₂}
use mathlib.Core.List.{List, [], ◌∷◌, ◌++◌}
use mathlib.Core.Bool.{true, false, false≢true, Bool}
use Prim.Native.Nat.{ℕ, ◌+◌, ◌*◌, ◌≤◌}
use native.Mathlib.Omega.{arith}
use lib.Dec.{eqb}
use borrow.Author.Tests.{eqb-false, ltb-false, eqb-true}
use Rattle.flash.proofs.Cases.{on_test}
use Rattle.frame.specs.declared.Edition.{Edition}
use Rattle.frame.specs.declared.Host.{Host}
use Rattle.frame.specs.Frame.{host_max, Change, put, delete, Frame, change, commit, abort, frame_len, end_len, host_of, total}
use Rattle.journal.specs.Replay.{Entry, entry, State, next_state, list_of, without, is_open_of, change_all}
use Rattle.journal.specs.Room.{claimed, open_hosts, no_room_of, spare, host_full, pending_for}
use Rattle.journal.proofs.Lists.{list_own, list_other, list_snoc, list_snoc_other, not_open, open_snoc}
use Rattle.journal.proofs.Room.{host-is, kept, commit-room, abort-room, change-room, kept-change, kept-commit, kept-abort, kept-claimed, used-claimed}
use Rattle.journal.proofs.PerHost.{bytes-other, bytes-ended, bytes_kept}
use Rattle.board.specs.declared.Record.{Record}
use Rattle.board.specs.Book.{Book, book, UnderWay, nothing, committing, with_list, join, finishing}
use Rattle.board.specs.Claim.{Track}
use Rattle.board.proofs.Invariant.{Lists, IdleBook, Shares, Slack, roomy, tight}
use Rattle.board.proofs.Current.{After}
use Rattle.board.proofs.Editions.{second-lens, ends-one, ends-fewer}

-- ---- the hosts' lists

with_own : (l : Host → List Change) (h g : Host) (cs : List Change) → eqb h.0 g.0 ≡ true → with_list l h cs g ≡ cs
with_own l h g cs t = rw (t, with_list)

with_other : (l : Host → List Change) (h g : Host) (cs : List Change) → eqb h.0 g.0 ≡ false → with_list l h cs g ≡ l g
with_other l h g cs t = rw (t, with_list)

-- lists that are the book's but for one host's are those of the book with that list
lists_with : (ps qs : List Entry) (b : Book) (h : Host) (cs : List Change) (w : UnderWay) → Lists ps b → list_of h qs ≡ cs
    → ((g : Host) → (h.0 ≡ g.0 → ⊥) → list_of g qs ≡ list_of g ps) → Lists qs (book b.objects (with_list b.lists h cs) w)
lists_with ps qs b h cs w l own other g k =
    on_test (eqb h.0 g.0)
    (λ t. subst (λ (i : Host). list_of i qs ≡ cs) (host-is h g t) own ∙ sym (with_own b.lists h g cs t))
    (λ t. other g (eqb-false h.0 g.0 t) ∙ l g k ∙ sym (with_other b.lists h g cs t))

pub lists-join : (ps : List Entry) (b : Book) (h : Host) (c : Change) → h.0 ≤ host_max → Lists ps b → Lists (ps ++ (entry h c ∷ [])) (join b h c)
lists-join ps b h c k l =
    lists_with ps (ps ++ (entry h c ∷ [])) b h (b.lists h ++ (c ∷ [])) b.under l
    (list_snoc h ps c ∙ ap (λ (x : List Change). x ++ (c ∷ [])) (l h k)) (λ g n. list_snoc_other g h ps c n)

pub lists-without : (ps : List Entry) (b : Book) (h : Host) (w : UnderWay) → Lists ps b
    → Lists (without h ps) (book b.objects (with_list b.lists h []) w)
lists-without ps b h w l = lists_with ps (without h ps) b h [] w l (list_own h ps) (λ g n. list_other g h ps n)

-- an abort with nothing pending
pub lists-none : (ps : List Entry) (b : Book) (h : Host) → is_open_of h ps ≡ false → Lists ps b
    → Lists ps (book b.objects (with_list b.lists h []) b.under)
lists-none ps b h t l = lists_with ps ps b h [] b.under l (not_open h ps t) (λ g n. refl)

-- ---- each host's share

shares-join : {s : ℕ} (ed : Edition) (ps : List Entry) (h : Host) (c : Change) → Shares s ed ps → 2 * pending_for ed h (ps ++ (entry h c ∷ [])) ≤ s
    → Shares s ed (ps ++ (entry h c ∷ []))
shares-join {s} ed ps h c y l g k =
    on_test (eqb h.0 g.0)
    (λ t. subst (λ (n : ℕ). 2 * pending_for ed (host_of n) (ps ++ (entry h c ∷ [])) ≤ s) (eqb-true h.0 g.0 t) l)
    (λ t. omega (arith, bytes-other ed g h ps c (eqb-false h.0 g.0 t), y g k))

shares-without : {s : ℕ} (ed : Edition) (ps : List Entry) (h : Host) → Shares s ed ps → Shares s ed (without h ps)
shares-without {s} ed ps h y g k =
    on_test (eqb h.0 g.0)
    (λ t. subst (λ (n : ℕ). 2 * pending_for ed (host_of n) (without h ps) ≤ s) (eqb-true h.0 g.0 t) (omega (arith, bytes-ended ed h ps)))
    (λ t. omega (arith, bytes_kept ed g h ps (eqb-false h.0 g.0 t), y g k))

pub shares-none : (s : ℕ) (ed : Edition) → Shares s ed []
unfolding list_of total
shares-none s ed g k = omega arith

-- ---- a frame and the book that is entered for it

-- once the frame f is in a journal of state st, replay agrees with what finishes the book
pub record Entered (t : Bool) (s : ℕ) (ed : Edition) (st : State) (f : Frame) (b : Book) : Type 0 where
  pub fits : claimed ed st + frame_len ed f ≤ s
  pub room : claimed ed (next_state st f) + end_len ed * open_hosts (next_state st f).pending ≤ s
  pub spare : Slack t s ed (next_state st f)
  pub shares : Shares s ed (next_state st f).pending
  pub objects : (next_state st f).objects ≡ (finishing b b.under).objects
  pub lists : Lists (next_state st f).pending (finishing b b.under)
  pub under : (finishing b b.under).under ≡ nothing

pub idle-book : {N : ℕ} (u : Track) {s : ℕ} {ed : Edition} {img : List ℕ} {r : Record} {st : State} {f : Frame} {b : Book} → Entered u.tight s ed st f b
    → After N s ed img r (next_state st f) → IdleBook N s u img r (finishing b b.under)
idle-book {N} u {s} {ed} {img} {r} {st} {f} {b} e a =
    record {
      ready = a.ready;
      spare = subst₂ (Slack u.tight s) (sym a.edition) (sym a.state) e.spare;
      shares = subst₂ (λ (d : Edition) (x : State). Shares s d x.pending) (sym a.edition) (sym a.state) e.shares;
      objects = ap (λ (x : State). x.objects) a.state ∙ e.objects;
      lists = subst (λ (x : State). Lists x.pending (finishing b b.under)) (sym a.state) e.lists;
      under = e.under;
    }

-- what a request of host h finds: the state's room, and the book's objects and lists
pub record BookFits (t : Bool) (s : ℕ) (ed : Edition) (st : State) (b : Book) : Type 0 where
  pub room : claimed ed st + end_len ed * open_hosts st.pending ≤ s
  pub spare : Slack t s ed st
  pub shares : Shares s ed st.pending
  pub objects : st.objects ≡ b.objects
  pub lists : Lists st.pending b
  pub under : b.under ≡ nothing

-- a book with nothing under way is finished as it is
under_none : (P : Book → Type 0) (b : Book) → b.under ≡ nothing → P b → P (finishing b b.under)
under_none P b e x = subst (λ (w : UnderWay). P (finishing b w)) (sym e) x

module _ {tg : Bool} {s : ℕ} {ed : Edition} {st : State} {b : Book} (y : BookFits tg s ed st b) (h : Host) (k : h.0 ≤ host_max) where
  -- what the room rule asks of a change
  abbrev needs : Change → ℕ
  needs c = claimed ed st + frame_len ed (change h c) + end_len ed * open_hosts (st.pending ++ (entry h c ∷ [])) + spare ed c

  open_one : (c : Change) → end_len ed ≤ end_len ed * open_hosts (st.pending ++ (entry h c ∷ []))
  open_one c = ends-one ed h (st.pending ++ (entry h c ∷ [])) k (open_snoc h st.pending c)

  change_spare : (c : Change) → needs c ≤ s → Slack tg s ed (next_state st (change h c))
  change_spare (put i v) l = roomy (omega (arith, l, kept-change ed st h (put i v), kept-claimed ed st))
  change_spare (delete i) l = after y.spare
    where
      -- a tight store has no room for a delete
      after : Slack tg s ed st → Slack tg s ed (next_state st (change h (delete i)))
      after (roomy m) = roomy (omega (arith, kept-change ed st h (delete i), m))
      after (tight t e p m) = absurd (omega (arith, l, m, open_one (delete i), second-lens ed e, used-claimed ed st))

  pub entered_change : (c : Change) → host_full ed s st h c ≡ false → no_room_of ed s st h c ≡ false → Entered tg s ed st (change h c) (join b h c)
  unfolding host_full no_room_of
  entered_change c q t =
      let l : needs c ≤ s = ltb-false s (needs c) t in
      record {
        fits = omega (arith, l);
        room = omega (arith, l, change-room ed st h c);
        spare = change_spare c l;
        shares = shares-join ed st.pending h c y.shares (ltb-false s (2 * pending_for ed h (st.pending ++ (entry h c ∷ []))) q);
        objects = under_none (λ x. st.objects ≡ x.objects) (join b h c) y.under y.objects;
        lists = under_none (λ x. Lists (st.pending ++ (entry h c ∷ [])) x) (join b h c) y.under (lists-join st.pending b h c k y.lists);
        under = under_none (λ x. x.under ≡ nothing) (join b h c) y.under y.under;
      }

  -- in a tight store nothing is pending, so that nothing is ended
  ended_slack : {st' : State} → Slack tg s ed st → kept ed st' ≤ kept ed st → is_open_of h st.pending ≡ true → Slack tg s ed st'
  unfolding is_open_of
  ended_slack (roomy m) l t = roomy (omega (arith, m, l))
  ended_slack (tight q e p m) l t = absurd (false≢true (sym (ap (is_open_of h) p) ∙ t))

  abbrev committed : Book
  committed = book b.objects b.lists (committing h)

  pub entered_commit : is_open_of h st.pending ≡ true → Entered tg s ed st (commit h) committed
  entered_commit t =
      record {
        fits = omega (arith, y.room, ends-one ed h st.pending k t);
        room = omega (arith, y.room, commit-room ed st h, ends-fewer ed h st.pending);
        spare = ended_slack y.spare (kept-commit ed st h) t;
        shares = shares-without ed st.pending h y.shares;
        objects = ap (λ (cs : List Change). change_all cs st.objects) (y.lists h k) ∙ ap (change_all (b.lists h)) y.objects;
        lists = lists-without st.pending (book (change_all (b.lists h) b.objects) b.lists nothing) h nothing y.lists;
        under = refl;
      }

  abbrev aborted : Book
  aborted = book b.objects (with_list b.lists h []) b.under

  pub entered_abort : is_open_of h st.pending ≡ true → Entered tg s ed st (abort h) aborted
  entered_abort t =
      record {
        fits = omega (arith, y.room, ends-one ed h st.pending k t);
        room = omega (arith, y.room, abort-room ed st h, ends-fewer ed h st.pending);
        spare = ended_slack y.spare (kept-abort ed st h) t;
        shares = shares-without ed st.pending h y.shares;
        objects = under_none (λ x. st.objects ≡ x.objects) aborted y.under y.objects;
        lists = under_none (λ x. Lists (without h st.pending) x) aborted y.under (lists-without st.pending b h b.under y.lists);
        under = under_none (λ x. x.under ≡ nothing) aborted y.under y.under;
      }
