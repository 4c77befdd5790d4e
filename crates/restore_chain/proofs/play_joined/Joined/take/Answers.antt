use Rattle.std.proofs.Common.{Some, refl}
use Rattle.archive_model.specs.Plays.{Piece}
use Rattle.restore_chain.specs.declared.play_joined.Joined.{Joined}
use Rattle.restore_chain.specs.Playing.{spot_of, joined_bytes}
use Rattle.restore_chain.proofs.JoinLaws.{joined_noted, joined_begins, joined_stopped, taken_of, few_bytes}
use Rattle.restore_chain.proofs.play_joined.Joined.take.Goals as goal

pub returns-in-Some-clause-joins : goal.returns-in-Some-clause-joins
returns-in-Some-clause-joins c = λ before few has.
    let p : Piece = record { spot = spot_of c.args.site; data_frame = c.args.piece.now } in
    joined_noted before p c.args.self.now _ c.in-Some.is c.requires.fits has

pub returns-in-None-stops_at-clause-joins : goal.returns-in-None-stops_at-clause-joins
returns-in-None-stops_at-clause-joins c = λ before few has.
    let p : Piece = record { spot = spot_of c.args.site; data_frame = c.args.piece.now } in
    let now : Joined = record { input = c.feed.new.self; noted = c.args.self.now.noted } in
    let taken = c.in_ok-feed-in-None.ensures.taken (joined_bytes before) (taken_of before c.args.self.now c.in-None.is has) (few_bytes before p has.fit c.requires.fits few) in
    joined_begins before p c.args.self.now now c.in-None.is c.requires.fits has taken (c.in-None-stops_at.ensures _ taken)

pub returns-in-Some-stops_at-clause-joins : goal.returns-in-Some-stops_at-clause-joins
returns-in-Some-stops_at-clause-joins c = λ before few has.
    let p : Piece = record { spot = spot_of c.args.site; data_frame = c.args.piece.now } in
    let now : Joined = record { input = c.feed.new.self; noted = Some c.args.site } in
    let taken = c.in_ok-feed-in-None.ensures.taken (joined_bytes before) (taken_of before c.args.self.now c.in-None.is has) (few_bytes before p has.fit c.requires.fits few) in
    joined_stopped before p c.args.self.now now c.args.site _ c.in-None.is refl refl c.requires.fits has (c.in-Some-stops_at.ensures _ taken)
