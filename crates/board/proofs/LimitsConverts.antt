-- Demand 2 of converts: 16, 7 and 6, and what an accepted one answers.
use mathlib.Core.Path.{◌≡◌, refl, ap, subst}
use mathlib.Core.List.{List, [], ◌∷◌}
use mathlib.Core.Logic.{◌↔◌, inl, inr}
use mathlib.Core.Option.{some}
use Prim.Native.Nat.{ℕ, ◌<◌, ◌≤◌}
use native.Mathlib.Omega.{arith}
use Rattle.flash.specs.Flash.{size_of}
use Rattle.flash.specs.Bytes.{Bytes}
use Rattle.frame.specs.declared.Host.{Host}
use Rattle.frame.specs.declared.Edition.{Edition}
use Rattle.frame.specs.declared.Edition.TheVariants as edition
use Rattle.journal.specs.Block.{Journal}
use Rattle.journal.specs.Room.{used, claimed}
use Rattle.journal.proofs.Room.{used-claimed}
use Rattle.journal.proofs.ReplayLaws.{used-exact}
use Rattle.wire.specs.declared.Request.{Request}
use Rattle.wire.specs.declared.Request.TheVariants.{Convert}
use Rattle.wire.specs.declared.Answer.TheVariants.{Done, More}
use Rattle.wire.specs.Answer.{number_of}
use Rattle.board.specs.declared.Record.{Record}
use Rattle.board.specs.Record.{Accepted, Out, out}
use Rattle.board.specs.Mount.{replay_of}
use Rattle.board.specs.Queue.{Asking, asking}
use Rattle.board.specs.Exec.{Machine, request}
use Rattle.board.specs.Table.{Moves, second_used, StillPending, line, Exactly, NoRoom, for_convert, HostFull, Worn, Task, convert_task}
use Rattle.board.specs.Demand2.{Asks, ConvertAnswers}
use Rattle.board.specs.Promise.{Calls, Answers, Serves}
use Rattle.board.proofs.Answering.{number-accepted, number-done, other-number, whole_is}
use Rattle.board.proofs.Limits.{after_malformed, past, still_convert, still_some, over_change, full_convert, worn_out}
use Rattle.board.proofs.Limits.{last-lines, pending_exactly, room_exactly, never_over}

module _ {N : ℕ} {m : Machine} (p : Calls N m) (img : List ℕ) (r : Record) (h : Host) (msg reply : List ℕ) (x : Journal) where
  abbrev a : Asking
  a = asking N img r h msg reply

  abbrev o : Out
  o = m img r (request h msg reply)

  -- 16 goes to nothing else
  others : (q : Request) → Asks a x q → (q ≡ Convert → ⊥) → number_of o.answer ≡ some 16 → ⊥
  others q y n e = go (past a x q y o.answer (p.table img r (request h msg reply) y.bytes))
    where
      go : Exactly (after_malformed a x q y) o.answer → ⊥
      go (inl (k, f)) = other-number o.answer 8 16 (λ v. omega arith) f e
      go (inr (_, inl (k, f))) = other-number o.answer 9 16 (λ v. omega arith) f e
      go (inr (_, inr (_, inl (k, f)))) = n (still_convert a x q y k)
      go (inr (_, inr (_, inr (_, inl (k, f))))) = other-number o.answer 12 16 (λ v. omega arith) f e
      go (inr (_, inr (_, inr (_, inr (_, inl (k, f)))))) = other-number o.answer 7 16 (λ v. omega arith) f e
      go (inr (_, inr (_, inr (_, inr (_, inr (_, inl (k, f))))))) = other-number o.answer 6 16 (λ v. omega arith) f e
      go (inr (_, inr (_, inr (_, inr (_, inr (_, inr (_, z))))))) = number-accepted o.answer 15 e z

  module _ (y : Asks a x Convert) where
    pending_is : (number_of o.answer ≡ some 16) ↔ ((replay_of x).pending ≡ [] → ⊥)
    pending_is =
        let e = pending_exactly p img r h msg reply x Convert y tt in (
          (λ f. still_some a x Convert y (e.0 f)),
          (λ n. e.1 (record { holding = x; is_held = y.is_held; is_asked = y.is_asked; some_pending = n })),
        )

    room_is : (replay_of x).pending ≡ [] → (number_of o.answer ≡ some 7) ↔ (size_of N img < second_used x)
    room_is n =
        let c : number_of o.answer ≡ some 16 → ⊥ = λ f. pending_is.0 f n in
        let e = room_exactly p img r h msg reply x Convert y tt c (never_over p img r h msg reply x Convert y tt (λ z. z) c) in (
          (λ f. full_convert a x Convert y refl (e.0 f)),
          (λ l. e.1 (for_convert x y.is_held y.is_asked l)),
        )

    -- no line of the table holds
    taken : (replay_of x).pending ≡ [] → (size_of N img < second_used x → ⊥) → (Moves a x (convert_task x.edition) → x.time ≡ 4294967295 → ⊥)
        → Accepted o.answer
    taken n l t = go (last-lines p img r h msg reply x Convert y tt)
      where
        go : Exactly (line 16 (StillPending a) ∷ line 12 (HostFull a) ∷ line 7 (NoRoom a) ∷ line 6 (Worn a) ∷ []) o.answer → Accepted o.answer
        go (inl (k, f)) = absurd (still_some a x Convert y k n)
        go (inr (_, inl (k, f))) = absurd (over_change a x Convert y k)
        go (inr (_, inr (_, inl (k, f)))) = absurd (l (full_convert a x Convert y refl k))
        go (inr (_, inr (_, inr (_, inl (k, f))))) = let z = worn_out a x Convert y k in absurd (t z.0 z.1)
        go (inr (_, inr (_, inr (_, inr (_, z))))) = z

    served : Bytes msg → Accepted o.answer → Serves a x Convert o
    served bm c = p.serves img r h msg reply x Convert y.bytes bm y.is_held y.is_asked c

    moves : Bytes msg → (replay_of x).pending ≡ [] → second_used x ≤ size_of N img → x.edition ≡ edition.First → (x.time ≡ 4294967295 → ⊥)
        → o.answer ≡ More
    moves bm n l e t =
        subst (λ (k : Task). Answers k r o) (ap convert_task e)
        (served bm (taken n (λ f. omega (arith, f, l)) (λ _ f. t f))).answers

    -- in edition 2 U is what the record's block has
    fits_second : x.edition ≡ edition.Second → second_used x ≤ size_of N img
    fits_second e =
        let u : used edition.Second (replay_of x) ≤ claimed edition.Second (replay_of x) = used-claimed edition.Second (replay_of x) in
        let c : claimed edition.Second (replay_of x) ≤ size_of N img =
        subst (λ (d : Edition). claimed d (replay_of x) ≤ size_of N img) e (omega (arith, y.is_held.room)) in
        omega (arith, u, c, used-exact.used_is edition.Second (replay_of x))

    stays : Bytes msg → (replay_of x).pending ≡ [] → x.edition ≡ edition.Second → o ≡ out Done img r reply
    stays bm n e =
        let c : Accepted o.answer =
        taken n (λ f. omega (arith, f, fits_second e)) (λ k f. subst (λ (d : Edition). Moves a x (convert_task d)) e k) in
        let s : Serves a x Convert o = served bm c in
        let g : (number_of o.answer ≡ some 0) × (o.board ≡ r) = subst (λ (k : Task). Answers k r o) (ap convert_task e) s.answers in
        whole_is o (number-done o.answer g.0) (p.one-step img r (request h msg reply)) g.1 s.writes s.hands_back

pub convert-answers : {N : ℕ} {m : Machine} → Calls N m → ConvertAnswers N m
convert-answers p =
    record {
      pending = pending_is p;
      room = room_is p;
      moves = moves p;
      stays = stays p;
      others = others p;
    }
