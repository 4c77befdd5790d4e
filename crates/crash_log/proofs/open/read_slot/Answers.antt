use Rattle.std.proofs.Common.{◌≡◌, ℕ, List, take, drop, sym, ◌∙◌, ap, arith, slice_index}
use Rattle.std.proofs.lemmas.List.{drop-take, drop-drop, get_or-take}
use Rattle.crash_log.specs.Log.{place_of, gate_at}
use Rattle.crash_log.proofs.open.read_slot.Goals as goal

pub returns-clause-slot : goal.returns-clause-slot
returns-clause-slot g c = λ told.
    let file = (g.M.Media.seen c.args.media.now).file c.args.f in
    let bytes = c.in_ok-read.ensures.bytes told in
    let front : gate_at c.args.base file ≡ slice_index c.read.new.into 0 =
    get_or-take 1 (drop c.args.base file) 0 0 (omega arith) ∙ sym (get_or-take 24 (drop c.args.base file) 0 0 (omega arith)) ∙ ap (λ (l : List ℕ). slice_index l 0) (sym bytes) in
    record { gate = (λ t. front ∙ c.parse.ensures.gate.0 t, λ h. c.parse.ensures.gate.1 (sym front ∙ h)); place = sym (ap place_of (ap (λ (l : List ℕ). drop 1 l) bytes ∙ drop-take 1 23 (drop c.args.base file) ∙ ap (λ (l : List ℕ). take 23 l) (drop-drop 1 c.args.base file))) ∙ c.parse.ensures.place }
