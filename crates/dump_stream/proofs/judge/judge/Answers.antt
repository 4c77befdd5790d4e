use Rattle.dump_stream.proofs.judge.judge.Goals as goal

pub returns-in-Exact : goal.returns-in-Exact
returns-in-Exact c = rw c.in-Exact.is c.judge_fixed.ensures

pub returns-in-Opening : goal.returns-in-Opening
returns-in-Opening c = rw c.in-Opening.is c.judge_fixed-in-Opening.ensures

pub returns-in-Closing : goal.returns-in-Closing
returns-in-Closing c = rw c.in-Closing.is c.judge_fixed-in-Closing.ensures

pub returns-in-Times : goal.returns-in-Times
returns-in-Times c = rw c.in-Times.is c.judge_fixed-in-Times.ensures

pub returns-in-Name : goal.returns-in-Name
returns-in-Name c = rw c.in-Name.is c.judge_name.ensures

pub returns-in-Kind : goal.returns-in-Kind
returns-in-Kind c = rw c.in-Kind.is c.judge_kind.ensures

pub returns-in-Week : goal.returns-in-Week
returns-in-Week c = rw c.in-Week.is c.judge_fixed-in-Week.ensures

pub returns-in-Text : goal.returns-in-Text
returns-in-Text c = rw c.in-Text.is c.judge_text.ensures

pub returns-in-VolumeKind : goal.returns-in-VolumeKind
returns-in-VolumeKind c = rw c.in-VolumeKind.is c.judge_volume_kind.ensures
