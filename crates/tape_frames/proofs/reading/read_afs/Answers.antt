use Rattle.bk_text.specs.Alphabets.{IsTapeName}
use Rattle.byte_formats.specs.Formats.{text1_of, maybe}
use Rattle.byte_formats.proofs.FormatLaws.{like_sticks}
use Rattle.tape_frames.specs.Formats.{afs_of}
use Rattle.tape_frames.proofs.Likes.{like_afs_none, like_afs_some}
use Rattle.tape_frames.proofs.reading.read_afs.Goals as goal

pub returns-in-Err : goal.returns-in-Err
returns-in-Err c = like_sticks (maybe IsTapeName) (afs_of c.args.initial) (like_afs_none c.args.initial c.if-initial-eq0.true) _ _ c.in-Err.ensures

pub returns-in-Err-front_text1 : goal.returns-in-Err-front_text1
returns-in-Err-front_text1 c = like_sticks (text1_of IsTapeName) (afs_of c.args.initial) (like_afs_some c.args.initial c.if-initial-eq0.false) _ _ c.in-Err-front_text1.ensures
