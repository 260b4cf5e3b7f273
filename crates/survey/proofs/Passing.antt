-- The pass over a block's frames: what each frame adds is what the definitions say of one frame more.
use mathlib.Core.Path.{◌≡◌, refl, sym, ap, ap₂, subst₂, ◌∙◌}
use mathlib.Core.List.{List, [], ◌∷◌, ◌++◌, append_assoc}
use mathlib.Core.Bool.{Bool, true, false}
use Prim.Native.Nat.{ℕ, ◌+◌, ◌-◌, ◌≤◌}
use native.Mathlib.Omega.{arith}
use lib.Dec.{eqb}
use lib.ListN.{get_or, take, drop, set, replicate}
use lib.Seq.{take_at, drop_at, drop-drop}
use borrow.Author.Tests.{eq-eqb, ne_eqb}
use Rattle.frame.specs.declared.Edition.{Edition}
use Rattle.frame.specs.declared.Host.{Host}
use Rattle.frame.specs.Frame.{host_max, put, delete, Frame, change, commit, abort, settled, closed, reset, Change, encode, frame_len, encode_all, total, MayStand}
use Rattle.frame.specs.Frame.{AllMayStand, next_after, next_of, reset_len}
use Rattle.frame.specs.Reader.{whole, read_frame, Scan, push, scan}
use Rattle.frame.specs.Code.{head_of}
use Rattle.frame.proofs.Encode.{length-all, encode-append, encode_snoc, total_snoc, stands-append}
use Rattle.frame.proofs.Encode.{next-append}
use Rattle.frame.proofs.Scanning.{push_all}
use Rattle.survey.specs.declared.Progress.{Progress}
use Rattle.journal.specs.Block.{header_len, Journal, valid}
use Rattle.journal.specs.Replay.{Entry, State, lookup, list_of, next_state, replay, replay_from}
use Rattle.journal.specs.Index.{sited, places_from, places_of, is_end, pick, since_from, since_host, since_of}
use Rattle.journal.specs.Room.{per_host, pending_for, counts_in, pending_of}
use Rattle.journal.proofs.Tables.{commit_places, places-stay, places-commit, places-settled}
use Rattle.survey.specs.Survey.{survey_of, places_in}
use Rattle.survey.specs.Pass.{commit_heads, recommit, progress, progress_of, grown, ended, ended_all, passed, took_frame, took_places, commit_in}
use Rattle.journal.proofs.Replaying.{replay_snoc}
use Rattle.journal.proofs.Pending.{since_snoc, since_at}
use Rattle.journal.proofs.Places.{Standing}
use Rattle.survey.proofs.Committing.{heads_whole}
use Rattle.survey.proofs.Indexing.{Boundary, boundary, commit-from}
use Rattle.journal.proofs.PerHost.{per_set, per_same, per_at, bytes-own, bytes-other, bytes-ended, bytes_kept, counts-none}
use Rattle.fetch.proofs.FrameReads.{whole_stands, whole_bytes, scan-whole-at, drop-take}

-- ---- `since` and the pending bytes after one frame more

-- a frame that ends every host's list, or none
since-alike : (ed : Edition) (fs : List Frame) (f : Frame) (t : Bool) → ((h : Host) → is_end h f ≡ t)
    → since_of ed (fs ++ (f ∷ [])) ≡ per_host (λ h. pick t (header_len + total ed fs + frame_len ed f) (since_host ed h fs))
since-alike ed fs f t n =
    per_same (λ h. pick t (header_len + total ed fs + frame_len ed f) (since_host ed h fs)) (λ h. since_host ed h (fs ++ (f ∷ [])))
    (λ h. since_snoc ed h header_len header_len fs f ∙ ap (λ (x : Bool). pick x (header_len + total ed fs + frame_len ed f) (since_host ed h fs)) (n h))

since-moves : (ed : Edition) (fs : List Frame) (f : Frame) (h : Host) → h.0 ≤ host_max → ((g : Host) → is_end g f ≡ eqb g.0 h.0)
    → since_of ed (fs ++ (f ∷ [])) ≡ set (since_of ed fs) h.0 (header_len + total ed fs + frame_len ed f)
since-moves ed fs f h l n =
    let at : (g : Host) (t : Bool) → is_end g f ≡ t → since_host ed g (fs ++ (f ∷ [])) ≡ pick t (header_len + total ed fs + frame_len ed f) (since_host ed g fs) =
    λ g t q. since_snoc ed g header_len header_len fs f ∙ ap (λ (x : Bool). pick x (header_len + total ed fs + frame_len ed f) (since_host ed g fs)) q in
    per_set (λ g. since_host ed g fs) (λ g. since_host ed g (fs ++ (f ∷ []))) h (header_len + total ed fs + frame_len ed f) l
    (at h true (n h ∙ eq-eqb h.0 h.0 refl)) (λ g d. at g false (n g ∙ ne_eqb g.0 h.0 (λ q. d (sym q))))

-- by what is pending before and after
pub pending_grows : (ed : Edition) (fs : List Frame) (h : Host) (c : Change) → h.0 ≤ host_max
    → pending_of ed (fs ++ (change h c ∷ [])) ≡ set (pending_of ed fs) h.0 (get_or (pending_of ed fs) h.0 0 + frame_len ed (change h c))
pending_grows ed fs h c l =
    let es : List Entry = (replay fs).pending in
    let e : (g : Host) → pending_for ed g (replay (fs ++ (change h c ∷ []))).pending ≡ pending_for ed g (next_state (replay fs) (change h c)).pending =
    λ g. ap (λ (s : State). pending_for ed g s.pending) (replay_snoc fs (change h c)) in
    per_set (λ g. pending_for ed g es) (λ g. pending_for ed g (replay (fs ++ (change h c ∷ []))).pending) h _ l
    (e h ∙ bytes-own ed h es c ∙ ap (λ (x : ℕ). x + frame_len ed (change h c)) (sym (per_at (λ g. pending_for ed g es) h l)))
    (λ g d. e g ∙ bytes-other ed g h es c d)

pub pending-ends : (ed : Edition) (fs : List Frame) (f : Frame) (h : Host) → h.0 ≤ host_max
    → ((s : State) → (next_state s f).pending ≡ (next_state s (abort h)).pending)
    → pending_of ed (fs ++ (f ∷ [])) ≡ set (pending_of ed fs) h.0 0
pending-ends ed fs f h l n =
    let es : List Entry = (replay fs).pending in
    let e : (g : Host) → pending_for ed g (replay (fs ++ (f ∷ []))).pending ≡ pending_for ed g (next_state (replay fs) (abort h)).pending =
    λ g. ap (λ (s : State). pending_for ed g s.pending) (replay_snoc fs f) ∙ ap (pending_for ed g) (n (replay fs)) in
    per_set (λ g. pending_for ed g es) (λ g. pending_for ed g (replay (fs ++ (f ∷ []))).pending) h 0 l (e h ∙ bytes-ended ed h es)
    (λ g d. e g ∙ bytes_kept ed g h es d)

pending-then : (ed : Edition) (fs : List Frame) (f : Frame) → pending_of ed (fs ++ (f ∷ [])) ≡ counts_in ed (next_state (replay fs) f)
pending-then ed fs f = ap (counts_in ed) (replay_snoc fs f)

same : {a a' b b' : ℕ} {s s' p p' : List ℕ} → a ≡ a' → b ≡ b' → s ≡ s' → p ≡ p' → progress a b s p ≡ progress a' b' s' p'
same {a} {a'} {b} {b'} {s} {s'} {p} {p'} e f g h =
    ap₂ (λ (x y : ℕ). progress x y s p) e f ∙ ap₂ (λ (x y : List ℕ). progress a' b' x y) g h

next_snoc : (fs : List Frame) (f : Frame) → next_of 0 (fs ++ (f ∷ [])) ≡ next_after f
next_snoc fs f = next-append 0 fs (f ∷ [])

end_snoc : (ed : Edition) (fs : List Frame) (f : Frame) → header_len + total ed (fs ++ (f ∷ [])) ≡ header_len + total ed fs + frame_len ed f
end_snoc ed fs f = omega (arith, total_snoc ed fs f)

progress_step : (ed : Edition) (fs : List Frame) (f : Frame) → MayStand ed (next_of 0 fs) f
    → progress_of ed (fs ++ (f ∷ [])) ≡ took_frame ed (progress_of ed fs) (head_of f)
unfolding took_frame grown ended ended_all passed
progress_step ed fs (change h (put i v)) (a, b, c) =
    let f : Frame = change h (put i v) in
    same (end_snoc ed fs f ∙ omega arith) (next_snoc fs f) (since-alike ed fs f false (λ g. refl))
    (pending_grows ed fs h (put i v) a ∙ ap (λ (x : ℕ). set (pending_of ed fs) h.0 x) (omega arith))
progress_step ed fs (change h (delete i)) (a, b) =
    let f : Frame = change h (delete i) in
    same (end_snoc ed fs f) (next_snoc fs f) (since-alike ed fs f false (λ g. refl)) (pending_grows ed fs h (delete i) a)
progress_step ed fs (commit h) a =
    let f : Frame = commit h in
    same (end_snoc ed fs f) (next_snoc fs f) (since-moves ed fs f h a (λ g. refl)) (pending-ends ed fs f h a (λ s. refl))
progress_step ed fs (abort h) a =
    let f : Frame = abort h in
    same (end_snoc ed fs f) (next_snoc fs f) (since-moves ed fs f h a (λ g. refl)) (pending-ends ed fs f h a (λ s. refl))
progress_step ed fs (settled i v) a =
    let f : Frame = settled i v in
    same (end_snoc ed fs f ∙ omega arith) (next_snoc fs f) (since-alike ed fs f false (λ g. refl)) (pending-then ed fs f)
progress_step ed fs (closed v) a =
    let f : Frame = closed v in
    same (end_snoc ed fs f ∙ omega arith) (next_snoc fs f) (since-alike ed fs f false (λ g. refl)) (pending-then ed fs f)
progress_step ed fs reset a =
    let n : header_len + total ed fs + frame_len ed reset ≡ header_len + total ed fs + reset_len ed = omega arith in
    same (end_snoc ed fs reset ∙ n) (next_snoc fs reset) (since-alike ed fs reset true (λ g. refl) ∙ ap (λ (x : ℕ). per_host (λ h. x)) n)
    (pending-then ed fs reset ∙ counts-none ed (replay fs).objects)

-- ---- a commit passes over its host's part again

stands_after : (ed : Edition) (n : ℕ) (gs hs : List Frame) → AllMayStand ed n (gs ++ hs) → AllMayStand ed (next_of n gs) hs
stands_after ed n [] hs g = g
stands_after ed n (a ∷ gs) hs (x, y) = stands_after ed (next_after a) gs hs y

-- a block whose journal starts with these frames, whatever its header
abbrev Starts : Edition → List ℕ → List Frame → Type 0
Starts ed b fs = drop header_len b ≡ encode_all ed fs ++ drop (header_len + total ed fs) b

bytes-between : (ed : Edition) (b : List ℕ) (gs hs : List Frame) → Starts ed b (gs ++ hs)
    → drop (header_len + total ed gs) (take (header_len + total ed (gs ++ hs)) b) ≡ encode_all ed hs
bytes-between ed b gs hs s =
    let fs : List Frame = gs ++ hs in
    let end : ℕ = header_len + total ed fs in
    let n : end - header_len ≡ total ed fs = omega arith in
    let part : drop header_len (take end b) ≡ encode_all ed fs =
    drop-take header_len end b ∙ ap₂ (λ (m : ℕ) (x : List ℕ). take m x) n s ∙ take_at (encode_all ed fs) (drop end b) (total ed fs) (length-all ed fs) in
    sym (drop-drop (total ed gs) header_len (take end b)) ∙ ap (drop (total ed gs)) (part ∙ encode-append ed gs hs)
    ∙ drop_at (encode_all ed gs) (encode_all ed hs) (total ed gs) (length-all ed gs)

commit-again : (ed : Edition) (b : List ℕ) (fs : List Frame) (h : Host) → h.0 ≤ host_max → AllMayStand ed 0 fs → Starts ed b fs
    → places_of ed (fs ++ (commit h ∷ [])) ≡ recommit ed (take (header_len + total ed fs) b) h (get_or (since_of ed fs) h.0 0) (places_of ed fs)
unfolding recommit
commit-again ed b fs h l g s =
    let y : Boundary ed h fs = boundary ed h fs in
    let t : List ℕ = places_of ed fs in
    let gs : List Frame = y.before in
    let hs : List Frame = y.after in
    let d : ℕ = since_host ed h fs in
    let e : drop d (take (header_len + total ed fs) b) ≡ encode_all ed hs =
    ap₂ (λ (m : ℕ) (x : List Frame). drop m (take (header_len + total ed x) b)) y.lies y.split
    ∙ bytes-between ed b gs hs (rw (← y.split) s) in
    places-commit ed fs h
    ∙ ap (commit_places ed h d header_len t) y.split ∙ commit-from ed h d header_len t gs hs (omega (arith, y.lies))
    ∙ ap (λ (m : ℕ). commit_places ed h d m t hs) (sym y.lies)
    ∙ sym (ap (commit_heads ed h d 0 t) e ∙ heads_whole ed h d d (next_of 0 gs) t hs (omega arith) (stands_after ed 0 gs hs (rw (← y.split) g)))
    ∙ ap (λ (m : ℕ). recommit ed (take (header_len + total ed fs) b) h m t) (sym (since_at ed fs h l))

-- a block in which the frames stand after a header
starts-standing : (ed : Edition) (b : List ℕ) (fs : List Frame) → Standing ed b fs → Starts ed b fs
starts-standing ed b fs y =
    let e : drop header_len b ≡ encode_all ed fs ++ y.rest = ap (drop header_len) y.split ∙ drop_at y.head (encode_all ed fs ++ y.rest) header_len y.long in
    e ∙ ap (λ (x : List ℕ). encode_all ed fs ++ x)
    (sym (sym (drop-drop (total ed fs) header_len b) ∙ ap (drop (total ed fs)) e ∙ drop_at (encode_all ed fs) y.rest (total ed fs) (length-all ed fs)))

-- a commit after the frames of a valid block, by its survey
pub commit-survey : (b : List ℕ) (x : Journal) (h : Host) → h.0 ≤ host_max → Standing x.edition b x.frames
    → commit_in b (survey_of (valid x)) h (places_in (valid x)) ≡ places_of x.edition (x.frames ++ (commit h ∷ []))
unfolding survey_of
commit-survey b x h l y = sym (commit-again x.edition b x.frames h l y.stand (starts-standing x.edition b x.frames y))

places-step : (ed : Edition) (b : List ℕ) (fs : List Frame) (f : Frame) → AllMayStand ed 0 fs → MayStand ed (next_of 0 fs) f → Starts ed b fs
    → places_of ed (fs ++ (f ∷ [])) ≡ took_places ed b (progress_of ed fs) (head_of f) (places_of ed fs)
unfolding took_places
places-step ed b fs (change h (put i v)) g m s = places-stay ed fs (change h (put i v)) (λ x o. refl)
places-step ed b fs (change h (delete i)) g m s = places-stay ed fs (change h (delete i)) (λ x o. refl)
places-step ed b fs (commit h) g m s = commit-again ed b fs h m g s
places-step ed b fs (abort h) g m s = places-stay ed fs (abort h) (λ x o. refl)
places-step ed b fs (settled i v) g m s = places-settled ed fs i v g m
places-step ed b fs (closed v) g m s = places-stay ed fs (closed v) (λ x o. refl)
places-step ed b fs reset g m s = places-stay ed fs reset (λ x o. refl)

-- ---- as far as the frames were read

pub record Reached (ed : Edition) (b t : List ℕ) (p : Progress) : Type 0 where
  pub frames : List Frame
  pub progress : p ≡ progress_of ed frames
  pub places : t ≡ places_of ed frames
  pub stand : AllMayStand ed 0 frames
  pub starts : Starts ed b frames
  pub scanned : scan ed 0 header_len 0 (drop header_len b) ≡ push_all frames (scan ed p.next p.end 0 (drop p.end b))

pub reached-none : (ed : Edition) (b t : List ℕ) (p : Progress) → t ≡ replicate 256 0
    → p ≡ progress header_len 0 (per_host (λ h. header_len)) (per_host (λ h. 0)) → Reached ed b t p
unfolding total encode_all since_from replay_from list_of places_from sited lookup
reached-none ed b t p e f =
    subst₂ (Reached ed b) (sym e) (sym f) (record { frames = []; progress = refl; places = refl; stand = tt; starts = refl; scanned = refl })

push_snoc : (fs : List Frame) (f : Frame) (s : Scan) → push_all fs (push f s) ≡ push_all (fs ++ (f ∷ [])) s
push_snoc [] f s = refl
push_snoc (g ∷ fs) f s = ap (push g) (push_snoc fs f s)

module _ (ed : Edition) (b : List ℕ) (fs : List Frame) (f : Frame) where
  abbrev at : ℕ
  at = header_len + total ed fs

  abbrev more : List Frame
  more = fs ++ (f ∷ [])

  rest_snoc : drop (frame_len ed f) (drop at b) ≡ drop (header_len + total ed more) b
  rest_snoc = drop-drop (frame_len ed f) at b ∙ ap (λ (n : ℕ). drop n b) (sym (end_snoc ed fs f))

  starts_snoc : Starts ed b fs → read_frame ed (next_of 0 fs) at (drop at b) ≡ whole f → Starts ed b more
  starts_snoc s r =
      s ∙ ap (λ (x : List ℕ). encode_all ed fs ++ x) (whole_bytes ed (next_of 0 fs) at (drop at b) f r)
      ∙ sym (append_assoc (encode_all ed fs) (encode ed f) (drop (frame_len ed f) (drop at b)))
      ∙ ap₂ (λ (x y : List ℕ). x ++ y) (sym (encode_snoc ed fs f)) rest_snoc

  scanned_snoc : read_frame ed (next_of 0 fs) at (drop at b) ≡ whole f
      → push_all fs (scan ed (next_of 0 fs) at 0 (drop at b)) ≡ push_all more
      (scan ed (next_of 0 more) (header_len + total ed more) 0 (drop (header_len + total ed more) b))
  scanned_snoc r =
      ap (push_all fs) (scan-whole-at ed (next_of 0 fs) at (drop at b) f r)
      ∙ push_snoc fs f (scan ed (next_after f) (at + frame_len ed f) 0 (drop (frame_len ed f) (drop at b)))
      ∙ ap₂ (λ (n m : ℕ). push_all more (scan ed n m 0 (drop (frame_len ed f) (drop at b)))) (sym (next_snoc fs f)) (sym (end_snoc ed fs f))
      ∙ ap (λ (x : List ℕ). push_all more (scan ed (next_of 0 more) (header_len + total ed more) 0 x)) rest_snoc

on-frames : (ed : Edition) (b : List ℕ) (fs : List Frame) (f : Frame) → AllMayStand ed 0 fs → Starts ed b fs
    → scan ed 0 header_len 0 (drop header_len b) ≡ push_all fs (scan ed (next_of 0 fs) (header_len + total ed fs) 0 (drop (header_len + total ed fs) b))
    → read_frame ed (next_of 0 fs) (header_len + total ed fs) (drop (header_len + total ed fs) b) ≡ whole f
    → Reached ed b (took_places ed b (progress_of ed fs) (head_of f) (places_of ed fs)) (took_frame ed (progress_of ed fs) (head_of f))
on-frames ed b fs f g s c r =
    let m : MayStand ed (next_of 0 fs) f = whole_stands ed (next_of 0 fs) (header_len + total ed fs) (drop (header_len + total ed fs) b) f r in
    subst₂ (Reached ed b) (places-step ed b fs f g m s) (progress_step ed fs f m)
    (record {
      frames = fs ++ (f ∷ []);
      progress = refl;
      places = refl;
      stand = stands-append ed 0 fs (f ∷ []) g (m, tt);
      starts = starts_snoc ed b fs f s r;
      scanned = c ∙ scanned_snoc ed b fs f r;
    })

-- one frame more
pub reached-on : (ed : Edition) {b t : List ℕ} {p : Progress} (f : Frame) → Reached ed b t p → read_frame ed p.next p.end (drop p.end b) ≡ whole f
    → Reached ed b (took_places ed b p (head_of f) t) (took_frame ed p (head_of f))
reached-on ed {b} {t} {p} f y r =
    let e : p ≡ progress_of ed y.frames = y.progress in
    subst₂ (λ (q : Progress) (u : List ℕ). Reached ed b (took_places ed b q (head_of f) u) (took_frame ed q (head_of f))) (sym e) (sym y.places)
    (on-frames ed b y.frames f y.stand y.starts
    (y.scanned ∙ ap (λ (q : Progress). push_all y.frames (scan ed q.next q.end 0 (drop q.end b))) e)
    (ap (λ (q : Progress). read_frame ed q.next q.end (drop q.end b)) (sym e) ∙ r))
