-- The tapes of a media: few slots, and few records in each.
use Rattle.std.proofs.Common.{◌≡◌, ℕ, ◌+◌, ◌<◌, ◌≤◌, Bool, List, length, IsTrue, sym, subst, arith}
use Rattle.media_core.specs.Media.{Image}
use Rattle.plant_core.specs.Records.{Record}
use Rattle.plant_media.specs.Counts.{few_in}
use Rattle.plant_media.specs.Laws.{below}
use Rattle.plant_media.specs.Slots.{slots_here}
use Rattle.plant_media.specs.Stock.{stock_of}
use Rattle.backup_session.specs.Worlds.{World}
use Rattle.backup_session.specs.Bounded.{HasTapes}

-- a world over files has a plant's tapes
pub has_tapes : (w : World) (present : ℕ → Bool) (image : Image) (count : ℕ) → w.setting.present ≡ slots_here present → w.state.tape ≡ (stock_of image).tape → ((f : ℕ) → IsTrue (present f) → f < count) → count ≤ 65536 → HasTapes w
has_tapes w present image count slots tapes within few = record {
  slots = λ k is. let low = below present count k within (subst (λ (p : ℕ → Bool). IsTrue (p k)) slots is) in omega (arith, few, low);
  records = λ k. subst (λ (tape : ℕ → List Record). length (tape k) ≤ 4294967295) (sym tapes) (few_in (image.file (k + 1)));
}
