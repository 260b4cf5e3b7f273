-- Demand 2, room and wear: past the earlier lines 7 is given exactly if the room rule says so, and then 6 exactly at the last time.
use mathlib.Core.Path.{◌≡◌, refl, sym, ap, subst, subst₂, ◌∙◌}
use mathlib.Core.List.{List, [], ◌∷◌}
use mathlib.Core.Logic.{◌↔◌, inl, inr}
use mathlib.Core.Option.{some}
use Prim.Native.Nat.{ℕ, ◌<◌, ◌/◌}
use native.Mathlib.Omega.{arith}
use lib.ListN.{length}
use Rattle.frame.specs.declared.Host.{Host}
use Rattle.frame.specs.declared.ObjectId.{ObjectId}
use Rattle.journal.specs.Block.{Journal}
use Rattle.wire.specs.declared.Answer.{Answer}
use Rattle.wire.specs.declared.Request.{Request}
use Rattle.wire.specs.declared.Request.TheVariants.{Put, Delete, Commit, Abort, Read, Log, Convert}
use Rattle.wire.specs.Answer.{number_of}
use Rattle.wire.specs.Message.{value_in_of}
use Rattle.wire.specs.Sentences.{Means}
use Rattle.board.proofs.Reading.{one-request}
use Rattle.board.proofs.TablingReads.{never_lost}
use Rattle.board.specs.declared.Phase.TheVariants.{Unmounted, Idle}
use Rattle.board.specs.declared.Record.{Record}
use Rattle.board.specs.Mount.{replay_of}
use Rattle.board.specs.Queue.{Asking, asking, size_for}
use Rattle.board.specs.Exec.{Machine, request}
use Rattle.board.specs.Table.{idles, task_for, Moves, second_used, StillPending, Line, line, Exactly, InJob, FreshFor, NoObject, ShortReply, NoRoom}
use Rattle.board.specs.Table.{for_put, for_delete, for_convert, put_needs, delete_needs, HostFull, put_over, delete_over, put_share, delete_share, Worn}
use Rattle.board.specs.Table.{request_lines}
use Rattle.board.specs.Demand2.{Asks, RoomExact, WearExact, ShareExact}
use Rattle.board.specs.Promise.{Calls}
use Rattle.board.proofs.Answering.{number-accepted, other-number}
use Rattle.board.proofs.Tabling.{is-allowed, same_held}

-- requests that may have steps to do, and those of them that the room rule is about
abbrev Changes : Request → Type 0
Changes (Put i) = Unit {0}
Changes (Delete i) = Unit {0}
Changes Commit = Unit {0}
Changes Abort = Unit {0}
Changes (Read i) = ⊥
Changes (Log k) = ⊥
Changes Convert = Unit {0}

abbrev pub IsChange : Request → Type 0
IsChange (Put i) = Unit {0}
IsChange (Delete i) = Unit {0}
IsChange Commit = ⊥
IsChange Abort = ⊥
IsChange (Read i) = ⊥
IsChange (Log k) = ⊥
IsChange Convert = ⊥

same-put : {i j : ObjectId} → Put i ≡ Put j → i ≡ j
same-put e = cc

same-delete : {i j : ObjectId} → Delete i ≡ Delete j → i ≡ j
same-delete e = cc

module _ (a : Asking) (x : Journal) (q : Request) (y : Asks a x q) where
  abbrev pub after_malformed : List Line
  after_malformed =
      line 8 (NoObject a) ∷ line 9 (ShortReply a) ∷ line 16 (StillPending a) ∷ line 12 (HostFull a) ∷ line 7 (NoRoom a) ∷ line 6 (Worn a) ∷ []

  pub same : (w : Journal) → FreshFor a w → w ≡ x
  same w f = same_held a.blocks a.image a.board y.bytes (is-allowed a.blocks (length a.image) y.length_ok) w x f y.is_held

  pub past : (w : Answer) → Exactly (request_lines a) w → Exactly after_malformed w
  past w (inl (n, _)) = absurd (n y.length_ok)
  past w (inr (_, inl (l, _))) = absurd (omega (arith, l, y.host_ok))
  past w (inr (_, inr (_, inl (j, _)))) = absurd (subst InJob y.is_idle j)
  past w (inr (_, inr (_, inr (_, inl (e, _))))) =
      let u : Unmounted ≡ Idle = sym e ∙ y.is_idle in let v : ◌≡◌ {A = ℕ} 0 1 = cc in absurd (omega arith)
  past w (inr (_, inr (_, inr (_, inr (_, inl (f, _)))))) = absurd (f.1 x y.is_held)
  past w (inr (_, inr (_, inr (_, inr (_, inr (_, inl (f, _))))))) = absurd (f q y.is_asked)
  past w (inr (_, inr (_, inr (_, inr (_, inr (_, inr (_, inl (l, _)))))))) =
      absurd (never_lost a x y.bytes (is-allowed a.blocks (length a.image) y.length_ok) y.is_held l)
  past w (inr (_, inr (_, inr (_, inr (_, inr (_, inr (_, inr (_, z)))))))) = z

  pub asks_one : (s : Request) → Means a.message s → q ≡ s
  asks_one s k = one-request a.message q s y.is_asked k

  -- of a request that is no read and no log 16, 12, 7 and 6 alone are left
  later : Changes q → (w : Answer) → Exactly after_malformed w
      → Exactly (line 16 (StillPending a) ∷ line 12 (HostFull a) ∷ line 7 (NoRoom a) ∷ line 6 (Worn a) ∷ []) w
  later k w (inl (n, _)) = absurd (subst Changes (asks_one (Read n.id) n.is_asked) k)
  later k w (inr (_, inl (n, _))) = absurd (subst Changes (asks_one (Log n.page) n.is_asked) k)
  later k w (inr (_, inr (_, z))) = z

  -- what each line says of this request
  over_put : (i : ObjectId) → q ≡ Put i → HostFull a → size_for a / 2 < put_share x a.host (value_in_of a.message)
  over_put i e (put_over w j f k l) = subst (λ (v : Journal). size_for a / 2 < put_share v a.host (value_in_of a.message)) (same w f) l
  over_put i e (delete_over w j f k l) = let g : Put i ≡ Delete j = sym e ∙ asks_one (Delete j) k in let v : ◌≡◌ {A = ℕ} 0 1 = cc in absurd (omega arith)

  over_delete : (i : ObjectId) → q ≡ Delete i → HostFull a → size_for a / 2 < delete_share x a.host
  over_delete i e (put_over w j f k l) = let g : Delete i ≡ Put j = sym e ∙ asks_one (Put j) k in let v : ◌≡◌ {A = ℕ} 0 1 = cc in absurd (omega arith)
  over_delete i e (delete_over w j f k l) = subst (λ (v : Journal). size_for a / 2 < delete_share v a.host) (same w f) l

  pub over_change : HostFull a → IsChange q
  over_change (put_over w j f k l) = subst IsChange (sym (asks_one (Put j) k)) tt
  over_change (delete_over w j f k l) = subst IsChange (sym (asks_one (Delete j) k)) tt

  full_put : (i : ObjectId) → q ≡ Put i → NoRoom a → size_for a < put_needs x a.host i (value_in_of a.message)
  full_put i e (for_put w j f k l) =
      let g : Put i ≡ Put j = sym e ∙ asks_one (Put j) k in
      subst₂ (λ (v : Journal) (n : ObjectId). size_for a < put_needs v a.host n (value_in_of a.message)) (same w f) (sym (same-put g)) l
  full_put i e (for_delete w j f k l) = let g : Put i ≡ Delete j = sym e ∙ asks_one (Delete j) k in let v : ◌≡◌ {A = ℕ} 0 1 = cc in absurd (omega arith)
  full_put i e (for_convert w f k l) = let g : Put i ≡ Convert = sym e ∙ asks_one Convert k in let v : ◌≡◌ {A = ℕ} 0 1 = cc in absurd (omega arith)

  full_delete : (i : ObjectId) → q ≡ Delete i → NoRoom a → size_for a < delete_needs x a.host i
  full_delete i e (for_put w j f k l) = let g : Delete i ≡ Put j = sym e ∙ asks_one (Put j) k in let v : ◌≡◌ {A = ℕ} 0 1 = cc in absurd (omega arith)
  full_delete i e (for_delete w j f k l) =
      let g : Delete i ≡ Delete j = sym e ∙ asks_one (Delete j) k in
      subst₂ (λ (v : Journal) (n : ObjectId). size_for a < delete_needs v a.host n) (same w f) (sym (same-delete g)) l
  full_delete i e (for_convert w f k l) = let g : Delete i ≡ Convert = sym e ∙ asks_one Convert k in let v : ◌≡◌ {A = ℕ} 0 1 = cc in absurd (omega arith)

  -- the room rule is of changes and converts
  pub full_change : NoRoom a → (q ≡ Convert → ⊥) → IsChange q
  full_change (for_put w j f k l) n = subst IsChange (sym (asks_one (Put j) k)) tt
  full_change (for_delete w j f k l) n = subst IsChange (sym (asks_one (Delete j) k)) tt
  full_change (for_convert w f k l) n = absurd (n (asks_one Convert k))

  pub full_convert : q ≡ Convert → NoRoom a → size_for a < second_used x
  full_convert e (for_put w j f k l) = let g : Convert ≡ Put j = sym e ∙ asks_one (Put j) k in let v : ◌≡◌ {A = ℕ} 0 1 = cc in absurd (omega arith)
  full_convert e (for_delete w j f k l) = let g : Convert ≡ Delete j = sym e ∙ asks_one (Delete j) k in let v : ◌≡◌ {A = ℕ} 0 1 = cc in absurd (omega arith)
  full_convert e (for_convert w f k l) = subst (λ (v : Journal). size_for a < second_used v) (same w f) l

  -- 16 is of converts
  pub still_convert : StillPending a → q ≡ Convert
  still_convert w = asks_one Convert w.is_asked

  pub still_some : StillPending a → (replay_of x).pending ≡ [] → ⊥
  still_some w = subst (λ (v : Journal). (replay_of v).pending ≡ [] → ⊥) (same w.holding w.is_held) w.some_pending

  pub worn_out : Worn a → Moves a x (task_for a.host a.message x q) × (x.time ≡ 4294967295)
  worn_out w =
      let e : w.holding ≡ x = same w.holding w.is_held in (
        subst₂ (λ (v : Journal) (s : Request). Moves a v (task_for a.host a.message v s)) e (sym (asks_one w.asked w.is_asked)) w.moves,
        sym (ap (λ (v : Journal). v.time) e) ∙ w.last-time,
      )

-- the first line that holds of the last four
module _ {P H R W : Type 0} (a : Answer) where
  pending_line : Exactly (line 16 P ∷ line 12 H ∷ line 7 R ∷ line 6 W ∷ []) a → (number_of a ≡ some 16) ↔ P
  pending_line (inl (n, f)) = ((λ e. n), (λ _. f))
  pending_line (inr (g, inl (w, f))) = ((λ e. other-number a 12 16 (λ v. omega arith) f e), (λ n. absurd (g n)))
  pending_line (inr (g, inr (_, inl (w, f)))) = ((λ e. other-number a 7 16 (λ v. omega arith) f e), (λ n. absurd (g n)))
  pending_line (inr (g, inr (_, inr (_, inl (w, f))))) = ((λ e. other-number a 6 16 (λ v. omega arith) f e), (λ n. absurd (g n)))
  pending_line (inr (g, inr (_, inr (_, inr (_, z))))) = ((λ e. absurd (number-accepted a 15 e z)), (λ n. absurd (g n)))

  past_pending : Exactly (line 16 P ∷ line 12 H ∷ line 7 R ∷ line 6 W ∷ []) a → (number_of a ≡ some 16 → ⊥)
      → Exactly (line 12 H ∷ line 7 R ∷ line 6 W ∷ []) a
  past_pending (inl (n, f)) g = absurd (g f)
  past_pending (inr (_, z)) g = z

-- of the last three
module _ {H R W : Type 0} (a : Answer) where
  share_line : Exactly (line 12 H ∷ line 7 R ∷ line 6 W ∷ []) a → (number_of a ≡ some 12) ↔ H
  share_line (inl (n, f)) = ((λ e. n), (λ _. f))
  share_line (inr (g, inl (w, f))) = ((λ e. other-number a 7 12 (λ v. omega arith) f e), (λ n. absurd (g n)))
  share_line (inr (g, inr (_, inl (w, f)))) = ((λ e. other-number a 6 12 (λ v. omega arith) f e), (λ n. absurd (g n)))
  share_line (inr (g, inr (_, inr (_, z)))) = ((λ e. absurd (number-accepted a 11 e z)), (λ n. absurd (g n)))

  past_share : Exactly (line 12 H ∷ line 7 R ∷ line 6 W ∷ []) a → (number_of a ≡ some 12 → ⊥) → Exactly (line 7 R ∷ line 6 W ∷ []) a
  past_share (inl (n, f)) g = absurd (g f)
  past_share (inr (_, z)) g = z

-- and of the last two
module _ {R W : Type 0} (a : Answer) where
  room_line : Exactly (line 7 R ∷ line 6 W ∷ []) a → (number_of a ≡ some 7) ↔ R
  room_line (inl (n, f)) = ((λ e. n), (λ _. f))
  room_line (inr (g, inl (w, f))) = ((λ e. other-number a 6 7 (λ v. omega arith) f e), (λ n. absurd (g n)))
  room_line (inr (g, inr (k, z))) = ((λ e. absurd (number-accepted a 6 e z)), (λ n. absurd (g n)))

  wear_line : Exactly (line 7 R ∷ line 6 W ∷ []) a → (number_of a ≡ some 7 → ⊥) → (number_of a ≡ some 6) ↔ W
  wear_line (inl (n, f)) g = absurd (g f)
  wear_line (inr (g, inl (w, f))) k = ((λ e. w), (λ _. f))
  wear_line (inr (g, inr (k, z))) v = ((λ e. absurd (number-accepted a 5 e z)), (λ w. absurd (k w)))

-- ---- every machine that keeps the table

module _ {N : ℕ} {m : Machine} (p : Calls N m) (img : List ℕ) (r : Record) (h : Host) (msg reply : List ℕ) where
  abbrev pub asked : Asking
  asked = asking N img r h msg reply

  abbrev pub answer : Answer
  answer = (m img r (request h msg reply)).answer

  pub last-lines : (x : Journal) (q : Request) → Asks asked x q → Changes q
      → Exactly (line 16 (StillPending asked) ∷ line 12 (HostFull asked) ∷ line 7 (NoRoom asked) ∷ line 6 (Worn asked) ∷ []) answer
  last-lines x q y k = later asked x q y k answer (past asked x q y answer (p.table img r (request h msg reply) y.bytes))

  pub pending_exactly : (x : Journal) (q : Request) → Asks asked x q → Changes q → (number_of answer ≡ some 16) ↔ StillPending asked
  pending_exactly x q y k = pending_line answer (last-lines x q y k)

  never_pending : (x : Journal) (q : Request) → Asks asked x q → Changes q → (q ≡ Convert → ⊥) → number_of answer ≡ some 16 → ⊥
  never_pending x q y k n f = n (still_convert asked x q y ((pending_exactly x q y k).0 f))

  rest_lines : (x : Journal) (q : Request) → Asks asked x q → Changes q → (number_of answer ≡ some 16 → ⊥)
      → Exactly (line 12 (HostFull asked) ∷ line 7 (NoRoom asked) ∷ line 6 (Worn asked) ∷ []) answer
  rest_lines x q y k n = past_pending answer (last-lines x q y k) n

  share_exactly : (x : Journal) (q : Request) → Asks asked x q → Changes q → (q ≡ Convert → ⊥) → (number_of answer ≡ some 12) ↔ HostFull asked
  share_exactly x q y k c = share_line answer (rest_lines x q y k (never_pending x q y k c))

  pub room_exactly : (x : Journal) (q : Request) → Asks asked x q → Changes q → (number_of answer ≡ some 16 → ⊥) → (number_of answer ≡ some 12 → ⊥)
      → (number_of answer ≡ some 7) ↔ NoRoom asked
  room_exactly x q y k c n = room_line answer (past_share answer (rest_lines x q y k c) n)

  -- 12 goes to changes alone
  pub never_over : (x : Journal) (q : Request) → Asks asked x q → Changes q → (IsChange q → ⊥) → (number_of answer ≡ some 16 → ⊥)
      → number_of answer ≡ some 12 → ⊥
  never_over x q y k n c f = n (over_change asked x q y ((share_line answer (rest_lines x q y k c)).0 f))

  -- a commit or abort is not refused for room
  never_full : (x : Journal) (q : Request) → Asks asked x q → Changes q → (q ≡ Convert → ⊥) → (IsChange q → ⊥) → number_of answer ≡ some 7 → ⊥
  never_full x q y k c n f =
      let d = never_pending x q y k c in
      n (full_change asked x q y ((room_exactly x q y k d (never_over x q y k n d)).0 f) c)

no-put : {i : ObjectId} → Put i ≡ Convert → ⊥
no-put e = let w : ◌≡◌ {A = ℕ} 0 1 = cc in omega arith

no-delete : {i : ObjectId} → Delete i ≡ Convert → ⊥
no-delete e = let w : ◌≡◌ {A = ℕ} 0 1 = cc in omega arith

no-commit : Commit ≡ Convert → ⊥
no-commit e = let w : ◌≡◌ {A = ℕ} 0 1 = cc in omega arith

no_abort : Abort ≡ Convert → ⊥
no_abort e = let w : ◌≡◌ {A = ℕ} 0 1 = cc in omega arith

module _ {N : ℕ} {m : Machine} (p : Calls N m) where
  pub share_exact : ShareExact N m
  share_exact =
      record {
        of_put = λ img r h msg reply x i y.
            let e = share_exactly p img r h msg reply x (Put i) y tt no-put in
            ((λ f. over_put _ x (Put i) y i refl (e.0 f)), (λ l. e.1 (put_over x i y.is_held y.is_asked l)));
        of_delete = λ img r h msg reply x i y.
            let e = share_exactly p img r h msg reply x (Delete i) y tt no-delete in
            ((λ f. over_delete _ x (Delete i) y i refl (e.0 f)), (λ l. e.1 (delete_over x i y.is_held y.is_asked l)));
        of_commit = λ img r h msg reply x y.
            never_over p img r h msg reply x Commit y tt (λ z. z) (never_pending p img r h msg reply x Commit y tt no-commit);
        of_abort = λ img r h msg reply x y.
            never_over p img r h msg reply x Abort y tt (λ z. z) (never_pending p img r h msg reply x Abort y tt no_abort);
      }

  pub room_exact : RoomExact N m
  room_exact =
      record {
        of_put = λ img r h msg reply x i y n.
            let e = room_exactly p img r h msg reply x (Put i) y tt (never_pending p img r h msg reply x (Put i) y tt no-put) n in
            ((λ f. full_put _ x (Put i) y i refl (e.0 f)), (λ l. e.1 (for_put x i y.is_held y.is_asked l)));
        of_delete = λ img r h msg reply x i y n.
            let e = room_exactly p img r h msg reply x (Delete i) y tt (never_pending p img r h msg reply x (Delete i) y tt no-delete) n in
            ((λ f. full_delete _ x (Delete i) y i refl (e.0 f)), (λ l. e.1 (for_delete x i y.is_held y.is_asked l)));
        of_commit = λ img r h msg reply x y. never_full p img r h msg reply x Commit y tt no-commit (λ z. z);
        of_abort = λ img r h msg reply x y. never_full p img r h msg reply x Abort y tt no_abort (λ z. z);
      }

  pub wear_exact : WearExact N m
  unfolding WearExact
  wear_exact img r h msg reply x q y e c d n =
      let a : Answer = (m img r (request h msg reply)).answer in
      let w = wear_line a (past_share a (rest_lines p img r h msg reply x q y (busy q e) c) d) n in (
        (λ g. worn_out (asking N img r h msg reply) x q y (w.0 g)),
        (λ k. w.1 (record { holding = x; asked = q; is_held = y.is_held; is_asked = y.is_asked; moves = k.0; last-time = k.1 })),
      )
    where
      busy : (s : Request) → (task_for h msg x s ≡ idles → ⊥) → Changes s
      busy (Put i) g = tt
      busy (Delete i) g = tt
      busy Commit g = tt
      busy Abort g = tt
      busy (Read i) g = absurd (g refl)
      busy (Log k) g = absurd (g refl)
      busy Convert g = tt
