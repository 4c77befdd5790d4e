-- The fields of a dump that has its forms fit its frames.
use Rattle.std.proofs.Common.{Option, Some, None, arith}
use Rattle.std.specs.Prelude.{IfSome}
use Rattle.dump_job.specs.declared.fields.Hand.{Hand}
use Rattle.dump_job.specs.declared.fields.JobFields.{JobFields}
use Rattle.dump_forms.specs.Forms.{IsHandForm, HasForms}
use Rattle.dump_laws.specs.Keeping.{IsFormedHand, IsFormed}

formed_hand : (o : Option Hand) → IfSome o IsHandForm → IfSome o IsFormedHand
formed_hand None form = tt
formed_hand (Some h) form = (let few = form.few in record { head = form.head; bytes = form.bytes; count = omega (arith, few) })

pub is_formed : (j : JobFields) → HasForms j → IsFormed j
is_formed j form = record { head = form.head; label = form.label; hand = formed_hand j.hand form.hand }
