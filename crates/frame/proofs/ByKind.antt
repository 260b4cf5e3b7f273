-- The bytes of each kind of frame are the papers'.
use mathlib.Core.Path.{◌≡◌, refl}
use Prim.Native.Nat.{◌+◌}
use native.Mathlib.Omega.{arith}
use lib.ListN.{length}
use Rattle.frame.specs.declared.Edition.TheVariants as edition
use Rattle.frame.specs.Frame.{change, settled, put, frame_len}
use Rattle.frame.specs.ByKind.{FrameExact}

pub frame-exact : FrameExact
frame-exact =
    record {
      put_bytes = λ h i v. let e : frame_len edition.First (change h (put i v)) ≡ 8 + length v = omega arith in simp e;
      delete_bytes = λ h i. refl;
      commit_bytes = λ h. refl;
      abort_bytes = λ h. refl;
      settled-bytes = λ i v. let e : frame_len edition.First (settled i v) ≡ 7 + length v = omega arith in simp e;
      put_second = λ h i v. let e : frame_len edition.Second (change h (put i v)) ≡ 12 + length v = omega arith in rw e;
      delete_second = λ h i. refl;
      commit_second = λ h. refl;
      abort_second = λ h. refl;
      reset-bytes = refl;
      reset_second = refl;
      closed-bytes = λ e v. refl;
      settled_second = λ i v. let e : frame_len edition.Second (settled i v) ≡ 11 + length v = omega arith in rw e;
    }
