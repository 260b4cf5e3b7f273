-- `Bench::ask_some` is a request, and some of its steps.
use Rattle.scene.proofs.Bench.ask_some.Goals as goal

pub returns : goal.returns
returns c =
    let r = rw c.as_image.ensures at c.request-begun.ensures in
    rw (c.went.ensures, r.0, r.1, r.2)
