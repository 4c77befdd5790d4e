use Rattle.std.proofs.Common.{length, sym, subst}
use Rattle.byte_formats.specs.Formats.{Sticks, filled}
use Rattle.tape_frames.specs.declared.frame.Frame.TheVariants as frames
use Rattle.tape_frames.specs.declared.kind.Kind.{Kind}
use Rattle.tape_frames.specs.declared.kind.Kind.TheVariants as kinds
use Rattle.tape_frames.specs.Formats.{label_form, plain_head_form, dump_head_form, vol_head_form, data_form, vol_end_form, dump_end_form}
use Rattle.tape_frames.specs.Kinds.{frame_form}
use Rattle.tape_frames.proofs.Wraps.{wrap_sticks, wrap_label, wrap_plain, wrap_head, wrap_vol_head, wrap_data, wrap_vol_end, wrap_dump_end}
use Rattle.tape_frames.proofs.decoding.frame_in.Goals as goal

pub returns-in-Err : goal.returns-in-Err
returns-in-Err c =
    subst (λ (k : Kind). Sticks (filled (length c.args.body.now) (frame_form k)) c.args.body.now c.in-Err.left) (sym c.in-Label.is)
    (wrap_sticks label_form kinds.Label frames.Label (length c.args.body.now) c.args.body.now c.in-Err.left wrap_label c.in-Err.ensures)

pub returns-in-Err-whole_plain_head : goal.returns-in-Err-whole_plain_head
returns-in-Err-whole_plain_head c =
    subst (λ (k : Kind). Sticks (filled (length c.args.body.now) (frame_form k)) c.args.body.now c.in-Err-whole_plain_head.left) (sym c.in-PlainHead.is)
    (wrap_sticks plain_head_form kinds.PlainHead frames.DumpHead (length c.args.body.now) c.args.body.now c.in-Err-whole_plain_head.left wrap_plain c.in-Err-whole_plain_head.ensures)

pub returns-in-Err-whole_dump_head : goal.returns-in-Err-whole_dump_head
returns-in-Err-whole_dump_head c =
    subst (λ (k : Kind). Sticks (filled (length c.args.body.now) (frame_form k)) c.args.body.now c.in-Err-whole_dump_head.left) (sym c.in-DumpHead.is)
    (wrap_sticks dump_head_form kinds.DumpHead frames.DumpHead (length c.args.body.now) c.args.body.now c.in-Err-whole_dump_head.left wrap_head c.in-Err-whole_dump_head.ensures)

pub returns-in-Err-whole_vol_head : goal.returns-in-Err-whole_vol_head
returns-in-Err-whole_vol_head c =
    subst (λ (k : Kind). Sticks (filled (length c.args.body.now) (frame_form k)) c.args.body.now c.in-Err-whole_vol_head.left) (sym c.in-VolHead.is)
    (wrap_sticks vol_head_form kinds.VolHead frames.VolHead (length c.args.body.now) c.args.body.now c.in-Err-whole_vol_head.left wrap_vol_head c.in-Err-whole_vol_head.ensures)

pub returns-in-Err-whole_data : goal.returns-in-Err-whole_data
returns-in-Err-whole_data c =
    subst (λ (k : Kind). Sticks (filled (length c.args.body.now) (frame_form k)) c.args.body.now c.in-Err-whole_data.left) (sym c.in-Data.is)
    (wrap_sticks data_form kinds.Data frames.Data (length c.args.body.now) c.args.body.now c.in-Err-whole_data.left wrap_data c.in-Err-whole_data.ensures)

pub returns-in-Err-whole_vol_end : goal.returns-in-Err-whole_vol_end
returns-in-Err-whole_vol_end c =
    subst (λ (k : Kind). Sticks (filled (length c.args.body.now) (frame_form k)) c.args.body.now c.in-Err-whole_vol_end.left) (sym c.in-VolEnd.is)
    (wrap_sticks vol_end_form kinds.VolEnd frames.VolEnd (length c.args.body.now) c.args.body.now c.in-Err-whole_vol_end.left wrap_vol_end c.in-Err-whole_vol_end.ensures)

pub returns-in-Err-whole_dump_end : goal.returns-in-Err-whole_dump_end
returns-in-Err-whole_dump_end c =
    subst (λ (k : Kind). Sticks (filled (length c.args.body.now) (frame_form k)) c.args.body.now c.in-Err-whole_dump_end.left) (sym c.in-DumpEnd.is)
    (wrap_sticks dump_end_form kinds.DumpEnd frames.DumpEnd (length c.args.body.now) c.args.body.now c.in-Err-whole_dump_end.left wrap_dump_end c.in-Err-whole_dump_end.ensures)
