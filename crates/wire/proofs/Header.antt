-- Answers and fields have the header's numbers.
use mathlib.Core.Path.{refl}
use Rattle.wire.specs.Header.{AnswersExact, RefusedExact, FieldsExact}

pub answers-exact : AnswersExact
answers-exact =
    record {
      done = refl;
      malformed = refl;
      no_store = refl;
      foreign = λ k e. refl;
      image_length = refl;
      busy = refl;
      worn = refl;
      no_room = refl;
      no_object = refl;
      short-reply = refl;
      host_range = refl;
      stale = refl;
      host-full = refl;
      pending = refl;
      more = refl;
    }

pub refused-exact : RefusedExact
refused-exact = record { done = refl; more = refl; refused = λ n. refl }

pub fields-exact : FieldsExact
fields-exact =
    record { length = refl; kind = refl; host = refl; id = refl; finish = refl; time = refl; state = refl; rest = refl; crc = refl }
