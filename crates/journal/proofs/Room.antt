-- Room: what each frame does to the room that a state takes, and how many hosts have something pending.
use mathlib.Core.Path.{◌≡◌, refl, sym, ap, ◌∙◌}
use mathlib.Core.List.{List, [], ◌∷◌, ◌++◌, map}
use mathlib.Core.Bool.{true, false}
use Prim.Native.Nat.{ℕ, zero, suc, ◌+◌, ◌*◌, ◌≤◌}
use native.Mathlib.Omega.{arith}
use lib.Dec.{eqb}
use lib.ListN.{length}
use borrow.Author.Tests.{eqb-true, eqb-false}
use Rattle.flash.proofs.Cases.{on_test, on-order}
use Rattle.frame.specs.declared.Edition.{Edition}
use Rattle.frame.specs.declared.Edition.TheVariants as edition
use Rattle.frame.specs.declared.Host.{Host}
use Rattle.frame.specs.declared.ObjectId.{ObjectId}
use Rattle.frame.specs.Frame.{host_of, host_max, Change, put, delete, Frame, change, commit, abort, settled, closed, reset, frame_len, put_len, total}
use Rattle.frame.proofs.Encode.{total-append}
use Rattle.journal.specs.Block.{header_len}
use Rattle.journal.specs.Replay.{Object, object, Entry, entry, State, state, insert, remove, change1, change_all, list_of, without}
use Rattle.journal.specs.Replay.{is_open_of, next_state, replay_from, replay, settled_frame, pending_frame, frames_of, settled_only}
use Rattle.journal.specs.Room.{used, claimed, one, open_hosts}
use Rattle.journal.proofs.Lookups.{insert_lt, insert_eq, insert_gt}
use Rattle.journal.proofs.Lists.{open_own, open_other}

-- what a change adds to the settled frames at most: a put's frame, and for a delete nothing
abbrev pub put_part : (ed : Edition) → Change → ℕ
put_part ed (put i v) = put_len ed (length v)
put_part ed (delete i) = 0

unfoldable pub put_parts : (ed : Edition) → List Change → ℕ
put_parts ed [] = 0
put_parts ed (c ∷ cs) = put_part ed c + put_parts ed cs

insert-total : (ed : Edition) (i : ObjectId) (v : List ℕ) (os : List Object)
    → total ed (map settled_frame (insert i v os)) ≤ put_len ed (length v) + total ed (map settled_frame os)
unfolding insert total
insert-total ed i v [] = omega arith
insert-total ed i v (o ∷ os) =
    on-order i.0 o.id.0
    (λ e l. rw (insert_lt i v o os e) (omega arith))
    (λ e l. rw (insert_eq i v o os e) (omega arith))
    (λ e l. rw (insert_gt i v o os e) (omega (arith, insert-total ed i v os)))

remove-total : (ed : Edition) (i : ObjectId) (os : List Object) → total ed (map settled_frame (remove i os)) ≤ total ed (map settled_frame os)
unfolding remove total
remove-total ed i [] = omega arith
remove-total ed i (o ∷ os) =
    on_test (eqb i.0 o.id.0) (λ e. rw (e, remove) (omega (arith, remove-total ed i os))) (λ e. rw (e, remove) (omega (arith, remove-total ed i os)))

change-total : (ed : Edition) (c : Change) (os : List Object) → total ed (map settled_frame (change1 c os)) ≤ put_part ed c + total ed (map settled_frame os)
change-total ed (put i v) os = insert-total ed i v os
change-total ed (delete i) os = omega (arith, remove-total ed i os)

changes-total : (ed : Edition) (cs : List Change) (os : List Object)
    → total ed (map settled_frame (change_all cs os)) ≤ put_parts ed cs + total ed (map settled_frame os)
unfolding change_all put_parts
changes-total ed [] os = omega arith
changes-total ed (c ∷ cs) os = omega (arith, changes-total ed cs (change1 c os), change-total ed c os)

put-part : (ed : Edition) (h : Host) (c : Change) → put_part ed c ≤ frame_len ed (change h c)
put-part ed h (put i v) = omega arith
put-part ed h (delete i) = omega arith

without-total : (ed : Edition) (h : Host) (es : List Entry)
    → put_parts ed (list_of h es) + total ed (map pending_frame (without h es)) ≤ total ed (map pending_frame es)
unfolding list_of without total put_parts
without-total ed h [] = omega arith
without-total ed h (e ∷ es) =
    on_test (eqb h.0 e.host.0)
    (λ t. rw (t, list_of, without) (omega (arith, without-total ed h es, put-part ed e.host e.what)))
    (λ t. rw (t, list_of, without) (omega (arith, without-total ed h es)))

-- a commit or an abort makes no state larger
pub commit-room : (ed : Edition) (s : State) (h : Host) → claimed ed (next_state s (commit h)) ≤ claimed ed s
commit-room ed s h = omega (arith, changes-total ed (list_of h s.pending) s.objects, without-total ed h s.pending)

pub abort-room : (ed : Edition) (s : State) (h : Host) → claimed ed (next_state s (abort h)) ≤ claimed ed s
abort-room ed s h = omega (arith, without-total ed h s.pending)

entries_snoc : (ed : Edition) (es : List Entry) (e : Entry)
    → total ed (map pending_frame (es ++ (e ∷ []))) ≡ total ed (map pending_frame es) + frame_len ed (pending_frame e)
unfolding total
entries_snoc ed [] e = omega arith
entries_snoc ed (x ∷ es) e = omega (arith, entries_snoc ed es e)

objects_snoc : (ed : Edition) (os : List Object) (o : Object)
    → total ed (map settled_frame (os ++ (o ∷ []))) ≡ total ed (map settled_frame os) + frame_len ed (settled_frame o)
unfolding total
objects_snoc ed [] o = omega arith
objects_snoc ed (x ∷ os) o = omega (arith, objects_snoc ed os o)

pub change-room : (ed : Edition) (s : State) (h : Host) (c : Change) → claimed ed (next_state s (change h c)) ≡ claimed ed s + frame_len ed (change h c)
change-room ed s h c = omega (arith, entries_snoc ed s.pending (entry h c))

-- the frames that a transfer writes are C bytes with the header
pub frames-total : (ed : Edition) (s : State) → header_len + total ed (frames_of s) ≡ claimed ed s
frames-total ed s = omega (arith, total-append ed (map settled_frame s.objects) (map pending_frame s.pending))

pub used-claimed : (ed : Edition) (s : State) → used ed s ≤ claimed ed s
used-claimed ed s = omega arith

pub claimed-settled : (ed : Edition) (s : State) → claimed ed (settled_only s) ≡ used ed s
unfolding total
claimed-settled ed s = omega arith

room_next : (ed : Edition) (s : State) (f : Frame) → claimed ed (next_state s f) ≤ claimed ed s + frame_len ed f
room_next ed s (change h c) = omega (arith, change-room ed s h c)
room_next ed s (commit h) = omega (arith, commit-room ed s h)
room_next ed s (abort h) = omega (arith, abort-room ed s h)
room_next ed s (settled i v) = omega (arith, objects_snoc ed s.objects (object i v))
room_next ed s (closed v) = omega arith
room_next ed s reset = omega (arith, claimed-settled ed s, used-claimed ed s)

room-from : (ed : Edition) (s : State) (fs : List Frame) → claimed ed (replay_from s fs) ≤ claimed ed s + total ed fs
unfolding replay_from total
room-from ed s [] = omega arith
room-from ed s (f ∷ fs) = omega (arith, room-from ed (next_state s f) fs, room_next ed s f)

pub claimed-replay : (ed : Edition) (fs : List Frame) → claimed ed (replay fs) ≤ header_len + total ed fs
unfolding total
claimed-replay ed fs = omega (arith, room-from ed (state [] []) fs)

-- the second edition's check is four bytes of each settled frame
checks-total : (os : List Object) → total edition.Second (map settled_frame os) ≡ total edition.First (map settled_frame os) + 4 * length os
unfolding total
checks-total [] = refl
checks-total (o ∷ os) = omega (arith, checks-total os)

pub used-second : (s : State) → used edition.Second s ≡ used edition.First s + 4 * length s.objects
used-second s = omega (arith, checks-total s.objects)

-- ---- U and the pending puts: with nothing pending it is U, and only a put makes it larger

unfoldable pub puts_of : (ed : Edition) → List Entry → ℕ
puts_of ed [] = 0
puts_of ed (e ∷ es) = put_part ed e.what + puts_of ed es

abbrev pub kept : (ed : Edition) → State → ℕ
kept ed s = used ed s + puts_of ed s.pending

puts_snoc : (ed : Edition) (es : List Entry) (e : Entry) → puts_of ed (es ++ (e ∷ [])) ≡ puts_of ed es + put_part ed e.what
unfolding puts_of
puts_snoc ed [] e = omega arith
puts_snoc ed (x ∷ es) e = omega (arith, puts_snoc ed es e)

without-puts : (ed : Edition) (h : Host) (es : List Entry) → put_parts ed (list_of h es) + puts_of ed (without h es) ≡ puts_of ed es
unfolding list_of without puts_of put_parts
without-puts ed h [] = refl
without-puts ed h (e ∷ es) =
    on_test (eqb h.0 e.host.0)
    (λ t. rw (t, list_of, without) (omega (arith, without-puts ed h es)))
    (λ t. rw (t, list_of, without) (omega (arith, without-puts ed h es)))

puts-total : (ed : Edition) (es : List Entry) → puts_of ed es ≤ total ed (map pending_frame es)
unfolding puts_of total
puts-total ed [] = omega arith
puts-total ed (e ∷ es) = omega (arith, puts-total ed es, put-part ed e.host e.what)

pub kept-change : (ed : Edition) (s : State) (h : Host) (c : Change) → kept ed (next_state s (change h c)) ≡ kept ed s + put_part ed c
kept-change ed s h c = omega (arith, puts_snoc ed s.pending (entry h c))

pub kept-commit : (ed : Edition) (s : State) (h : Host) → kept ed (next_state s (commit h)) ≤ kept ed s
kept-commit ed s h = omega (arith, changes-total ed (list_of h s.pending) s.objects, without-puts ed h s.pending)

pub kept-abort : (ed : Edition) (s : State) (h : Host) → kept ed (next_state s (abort h)) ≤ kept ed s
kept-abort ed s h = omega (arith, without-puts ed h s.pending)

pub used-kept : (ed : Edition) (s : State) → used ed s ≤ kept ed s
used-kept ed s = omega arith

pub kept-claimed : (ed : Edition) (s : State) → kept ed s ≤ claimed ed s
kept-claimed ed s = omega (arith, puts-total ed s.pending)

pub kept-none : (ed : Edition) (s : State) → s.pending ≡ [] → kept ed s ≡ used ed s
unfolding puts_of
kept-none ed s e = let q : puts_of ed s.pending ≡ 0 = ap (puts_of ed) e in omega arith

-- ---- how many hosts have something pending

fewer : (es ds : List Entry) → ((h : Host) → one (is_open_of h es) ≤ one (is_open_of h ds)) → open_hosts es ≤ open_hosts ds
fewer es ds k = omega (arith, k (host_of 0), k (host_of 1), k (host_of 2), k (host_of 3))

-- one host by its number
pub host-is : (h g : Host) → eqb h.0 g.0 ≡ true → h ≡ g
host-is h g t = ap host_of (eqb-true h.0 g.0 t)

one-without : (g h : Host) (es : List Entry) → one (is_open_of g (without h es)) ≤ one (is_open_of g es)
one-without g h es =
    on_test (eqb h.0 g.0)
    (λ t. let e : is_open_of g (without h es) ≡ false = ap (λ (x : Host). is_open_of x (without h es)) (sym (host-is h g t)) ∙ open_own h es in rw e (omega arith))
    (λ t. rw (open_other g h es (eqb-false h.0 g.0 t)) (omega arith))

pub fewer-without : (h : Host) (es : List Entry) → open_hosts (without h es) ≤ open_hosts es
fewer-without h es = fewer (without h es) es (λ g. one-without g h es)

-- a host with something pending is one of them, and its commit or abort leaves one fewer
pub less-without : (h : Host) (es : List Entry) → h.0 ≤ host_max → is_open_of h es ≡ true → open_hosts (without h es) + 1 ≤ open_hosts es
less-without h es l o = go h.0 l o
  where
    was : (n : ℕ) → is_open_of (host_of n) es ≡ true → one (is_open_of (host_of n) (without (host_of n) es)) + 1 ≡ one (is_open_of (host_of n) es)
    was n q = rw (open_own (host_of n) es, q) refl

    le : (m n : ℕ) → one (is_open_of (host_of m) (without (host_of n) es)) ≤ one (is_open_of (host_of m) es)
    le m n = one-without (host_of m) (host_of n) es

    go : (n : ℕ) → n ≤ 3 → is_open_of (host_of n) es ≡ true → open_hosts (without (host_of n) es) + 1 ≤ open_hosts es
    go zero k q = omega (arith, was 0 q, le 1 0, le 2 0, le 3 0)
    go (suc zero) k q = omega (arith, was 1 q, le 0 1, le 2 1, le 3 1)
    go (suc (suc zero)) k q = omega (arith, was 2 q, le 0 2, le 1 2, le 3 2)
    go (suc (suc (suc zero))) k q = omega (arith, was 3 q, le 0 3, le 1 3, le 2 3)
    go (suc (suc (suc (suc n)))) k q = absurd (omega arith)

pub open_pos : (h : Host) (es : List Entry) → h.0 ≤ host_max → is_open_of h es ≡ true → 1 ≤ open_hosts es
open_pos h es l o = omega (arith, less-without h es l o)
