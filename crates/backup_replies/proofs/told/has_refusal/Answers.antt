use Rattle.std.proofs.Common.{rules, refl}
use Rattle.std.proofs.lemmas.Iterator.Search.{any_from_yields_List}
use Rattle.std.proofs.lemmas.Iterator.Splits.{YieldsList-from_slice_split}
use Rattle.backup_replies.specs.Texts.{has_refusal, is_feed, is_refusal}
use Rattle.backup_replies.proofs.told.has_refusal.Goals as goal

pub returns : goal.returns
returns c =
    any_from_yields_List is_refusal _ _ c.any.result c.any.ensures.ran
    (YieldsList-from_slice_split _ is_feed c.args.text.now c.split.ensures.rest c.split.ensures.done c.split.ensures.closure (λ x b q h. (refl, search rules)))
    (λ x b q h. (refl, search rules))
