-- One number for each host, and each host's pending bytes.
use mathlib.Core.Path.{◌≡◌, refl, sym, ap, ◌∙◌}
use mathlib.Core.List.{List, [], ◌∷◌, ◌++◌, map}
use mathlib.Core.Bool.{true, false}
use Prim.Native.Nat.{ℕ, zero, suc, ◌+◌, ◌≤◌}
use native.Mathlib.Omega.{arith}
use lib.Dec.{eqb, ltb}
use lib.ListN.{get_or, set, length}
use borrow.Author.Tests.{lt-ltb, eq-eqb, ne_eqb}
use Rattle.flash.proofs.Cases.{on_test}
use Rattle.frame.specs.declared.Edition.{Edition}
use Rattle.frame.specs.declared.Host.{Host}
use Rattle.frame.specs.Frame.{host_of, host_max, Change, put, delete, Frame, change, frame_len, total, MayStand, AllMayStand}
use Rattle.journal.specs.Block.{header_len}
use Rattle.journal.specs.Replay.{Object, Entry, entry, state, list_of, without, is_open_of, replay, pending_frame}
use Rattle.journal.specs.Room.{used, claimed, one, open_hosts, pending_for, per_host, counts_in, pending_of}
use Rattle.journal.proofs.Lists.{list_own, list_other, list_snoc, list_snoc_other}
use Rattle.journal.proofs.Replaying.{LegalEntries, sound-replay}
use Rattle.journal.proofs.Room.{claimed-replay}

-- ---- four numbers

pub per_set : (f g : Host → ℕ) (h : Host) (v : ℕ) → h.0 ≤ host_max → g h ≡ v → ((k : Host) → (h.0 ≡ k.0 → ⊥) → g k ≡ f k)
    → per_host g ≡ set (per_host f) h.0 v
per_set f g h v l e s = go h.0 l e s
  where
    go : (n : ℕ) → n ≤ 3 → g (host_of n) ≡ v → ((k : Host) → (n ≡ k.0 → ⊥) → g k ≡ f k) → per_host g ≡ set (per_host f) n v
    go zero l e s = cc (e, s (host_of 1) (λ q. omega arith), s (host_of 2) (λ q. omega arith), s (host_of 3) (λ q. omega arith))
    go (suc zero) l e s = cc (e, s (host_of 0) (λ q. omega arith), s (host_of 2) (λ q. omega arith), s (host_of 3) (λ q. omega arith))
    go (suc (suc zero)) l e s = cc (e, s (host_of 0) (λ q. omega arith), s (host_of 1) (λ q. omega arith), s (host_of 3) (λ q. omega arith))
    go (suc (suc (suc zero))) l e s = cc (e, s (host_of 0) (λ q. omega arith), s (host_of 1) (λ q. omega arith), s (host_of 2) (λ q. omega arith))
    go (suc (suc (suc (suc n)))) l e s = absurd (omega arith)

pub per_same : (f g : Host → ℕ) → ((k : Host) → g k ≡ f k) → per_host g ≡ per_host f
per_same f g s = cc (s (host_of 0), s (host_of 1), s (host_of 2), s (host_of 3))

pub per_at : (f : Host → ℕ) (h : Host) → h.0 ≤ host_max → get_or (per_host f) h.0 0 ≡ f h
per_at f h l = go h.0 l
  where
    go : (n : ℕ) → n ≤ 3 → get_or (per_host f) n 0 ≡ f (host_of n)
    go zero l = refl
    go (suc zero) l = refl
    go (suc (suc zero)) l = refl
    go (suc (suc (suc zero))) l = refl
    go (suc (suc (suc (suc n)))) l = absurd (omega arith)

pub per_list : (ps : List ℕ) (f : Host → ℕ) → length ps ≡ 4 → ((h : Host) → h.0 ≤ host_max → get_or ps h.0 0 ≡ f h) → ps ≡ per_host f
per_list [] f e s = absurd (omega arith)
per_list (a ∷ []) f e s = absurd (omega arith)
per_list (a ∷ b ∷ []) f e s = absurd (omega arith)
per_list (a ∷ b ∷ c ∷ []) f e s = absurd (omega arith)
per_list (a ∷ b ∷ c ∷ d ∷ []) f e s =
    cc (s (host_of 0) (omega arith), s (host_of 1) (omega arith), s (host_of 2) (omega arith), s (host_of 3) (omega arith))
per_list (a ∷ b ∷ c ∷ d ∷ x ∷ ps) f e s = absurd (omega arith)

per_most : (f : Host → ℕ) (m k : ℕ) → ((h : Host) → f h ≤ m) → get_or (per_host f) k 0 ≤ m
per_most f m zero s = s (host_of 0)
per_most f m (suc zero) s = s (host_of 1)
per_most f m (suc (suc zero)) s = s (host_of 2)
per_most f m (suc (suc (suc zero))) s = s (host_of 3)
per_most f m (suc (suc (suc (suc k)))) s = omega arith

-- ---- the bytes of a host's pending frames

changes_snoc : (ed : Edition) (h : Host) (cs : List Change) (c : Change)
    → total ed (map (change h) (cs ++ (c ∷ []))) ≡ total ed (map (change h) cs) + frame_len ed (change h c)
unfolding total
changes_snoc ed h [] c = omega arith
changes_snoc ed h (x ∷ cs) c = omega (arith, changes_snoc ed h cs c)

pub bytes-own : (ed : Edition) (h : Host) (es : List Entry) (c : Change)
    → pending_for ed h (es ++ (entry h c ∷ [])) ≡ pending_for ed h es + frame_len ed (change h c)
bytes-own ed h es c = ap (λ (x : List Change). total ed (map (change h) x)) (list_snoc h es c) ∙ changes_snoc ed h (list_of h es) c

pub bytes-other : (ed : Edition) (g h : Host) (es : List Entry) (c : Change) → (h.0 ≡ g.0 → ⊥) → pending_for ed g (es ++ (entry h c ∷ [])) ≡ pending_for ed g es
bytes-other ed g h es c n = ap (λ (x : List Change). total ed (map (change g) x)) (list_snoc_other g h es c n)

pub bytes-ended : (ed : Edition) (h : Host) (es : List Entry) → pending_for ed h (without h es) ≡ 0
unfolding total
bytes-ended ed h es = ap (λ (x : List Change). total ed (map (change h) x)) (list_own h es)

pub bytes_kept : (ed : Edition) (g h : Host) (es : List Entry) → (h.0 ≡ g.0 → ⊥) → pending_for ed g (without h es) ≡ pending_for ed g es
bytes_kept ed g h es n = ap (λ (x : List Change). total ed (map (change g) x)) (list_other g h es n)

-- nothing pending
pub counts-none : (ed : Edition) (os : List Object) → counts_in ed (state os []) ≡ 0 ∷ 0 ∷ 0 ∷ 0 ∷ []
unfolding list_of total
counts-none ed os = refl

any_host : (ed : Edition) (h g : Host) (c : Change) → frame_len ed (change h c) ≡ frame_len ed (change g c)
any_host ed h g (put i v) = refl
any_host ed h g (delete i) = refl

pub bytes_most : (ed : Edition) (h : Host) (es : List Entry) → pending_for ed h es ≤ total ed (map pending_frame es)
unfolding list_of total
bytes_most ed h [] = omega arith
bytes_most ed h (e ∷ es) =
    on_test (eqb h.0 e.host.0)
    (λ t. rw (t, list_of) (omega (arith, bytes_most ed h es, any_host ed h e.host e.what)))
    (λ t. rw (t, list_of) (omega (arith, bytes_most ed h es)))

pub pending-most : (ed : Edition) (fs : List Frame) (k : ℕ) → get_or (pending_of ed fs) k 0 ≤ header_len + total ed fs
pending-most ed fs k =
    per_most (λ h. pending_for ed h (replay fs).pending) (header_len + total ed fs) k
    (λ h. omega (arith, bytes_most ed h (replay fs).pending, claimed-replay ed fs))

-- ---- what the four numbers tell: who has something pending, how many hosts have, and C

bytes-yes : (ed : Edition) (h : Host) (e : Entry) (es : List Entry) → eqb h.0 e.host.0 ≡ true
    → pending_for ed h (e ∷ es) ≡ frame_len ed (pending_frame e) + pending_for ed h es
unfolding list_of total
bytes-yes ed h e es t = rw (t, list_of) (omega (arith, any_host ed h e.host e.what))

bytes-no : (ed : Edition) (h : Host) (e : Entry) (es : List Entry) → eqb h.0 e.host.0 ≡ false → pending_for ed h (e ∷ es) ≡ pending_for ed h es
unfolding list_of
bytes-no ed h e es t = rw (t, list_of)

pub open_bytes : (ed : Edition) (h : Host) (es : List Entry) → is_open_of h es ≡ ltb 0 (pending_for ed h es)
unfolding is_open_of list_of total
open_bytes ed h [] = refl
open_bytes ed h (e ∷ es) =
    on_test (eqb h.0 e.host.0)
    (λ t. rw (t, is_open_of) (sym (lt-ltb 0 (pending_for ed h (e ∷ es)) (omega (arith, bytes-yes ed h e es t)))))
    (λ t. rw (t, is_open_of) (open_bytes ed h es ∙ ap (ltb 0) (sym (bytes-no ed h e es t))))

abbrev pub bytes_of_all : (ed : Edition) → List Entry → ℕ
bytes_of_all ed es = pending_for ed (host_of 0) es + pending_for ed (host_of 1) es + pending_for ed (host_of 2) es + pending_for ed (host_of 3) es

pub open_count : (ed : Edition) (es : List Entry)
    → open_hosts es
    ≡ one (ltb 0 (pending_for ed (host_of 0) es)) + one (ltb 0 (pending_for ed (host_of 1) es)) + one (ltb 0 (pending_for ed (host_of 2) es)) + one
    (ltb 0 (pending_for ed (host_of 3) es))
open_count ed es = rw (open_bytes ed (host_of 0) es, open_bytes ed (host_of 1) es, open_bytes ed (host_of 2) es, open_bytes ed (host_of 3) es)

pub host-most : (ed : Edition) (e : Entry) → MayStand ed 256 (pending_frame e) → e.host.0 ≤ 3
host-most ed e g = go e.what g
  where
    go : (c : Change) → MayStand ed 256 (change e.host c) → e.host.0 ≤ 3
    go (put i v) (a, b, c) = a
    go (delete i) (a, b) = a

one_more : (ed : Edition) (e : Entry) (es : List Entry) → e.host.0 ≤ 3 → bytes_of_all ed (e ∷ es) ≡ frame_len ed (pending_frame e) + bytes_of_all ed es
one_more ed e es l = go e.host.0 refl l
  where
    yes : (n : ℕ) → e.host.0 ≡ n → pending_for ed (host_of n) (e ∷ es) ≡ frame_len ed (pending_frame e) + pending_for ed (host_of n) es
    yes n q = bytes-yes ed (host_of n) e es (eq-eqb n e.host.0 (sym q))

    no : (m n : ℕ) → e.host.0 ≡ n → (m ≡ n → ⊥) → pending_for ed (host_of m) (e ∷ es) ≡ pending_for ed (host_of m) es
    no m n q d = bytes-no ed (host_of m) e es (ne_eqb m e.host.0 (λ z. d (z ∙ q)))

    go : (n : ℕ) → e.host.0 ≡ n → n ≤ 3 → bytes_of_all ed (e ∷ es) ≡ frame_len ed (pending_frame e) + bytes_of_all ed es
    go zero q k = omega (arith, yes 0 q, no 1 0 q (λ z. omega arith), no 2 0 q (λ z. omega arith), no 3 0 q (λ z. omega arith))
    go (suc zero) q k = omega (arith, yes 1 q, no 0 1 q (λ z. omega arith), no 2 1 q (λ z. omega arith), no 3 1 q (λ z. omega arith))
    go (suc (suc zero)) q k = omega (arith, yes 2 q, no 0 2 q (λ z. omega arith), no 1 2 q (λ z. omega arith), no 3 2 q (λ z. omega arith))
    go (suc (suc (suc zero))) q k = omega (arith, yes 3 q, no 0 3 q (λ z. omega arith), no 1 3 q (λ z. omega arith), no 2 3 q (λ z. omega arith))
    go (suc (suc (suc (suc n)))) q k = absurd (omega arith)

pub bytes-total : (ed : Edition) (es : List Entry) → LegalEntries ed es → total ed (map pending_frame es) ≡ bytes_of_all ed es
unfolding total list_of
bytes-total ed [] g = refl
bytes-total ed (e ∷ es) (g, gs) = omega (arith, bytes-total ed es gs, one_more ed e es (host-most ed e g))

-- C
pub claimed-bytes : (ed : Edition) (fs : List Frame) → AllMayStand ed 0 fs → claimed ed (replay fs) ≡ used ed (replay fs) + bytes_of_all ed (replay fs).pending
claimed-bytes ed fs g = omega (arith, bytes-total ed (replay fs).pending (sound-replay ed fs g).entries)

-- nothing is pending exactly if the sum is 0
pub none_pending : (ed : Edition) (es : List Entry) → LegalEntries ed es → bytes_of_all ed es ≡ 0 → es ≡ []
unfolding total
none_pending ed [] g z = refl
none_pending ed (e ∷ es) (g, gs) z = absurd (omega (arith, one_more ed e es (host-most ed e g)))
