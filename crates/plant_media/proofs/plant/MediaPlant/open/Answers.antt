use Rattle.std.proofs.Common.{◌≡◌, ℕ, ◌+◌, false, List, length, Option, Some, None, rules, sym, ◌∙◌, ap}
use Rattle.media_core.specs.Media.{Image}
use Rattle.crash_log.specs.Log.{is_damaged}
use Rattle.crash_log.specs.CrashLog.{log_bytes}
use Rattle.crash_log.specs.Fit.{as_read}
use Rattle.crash_log.proofs.Fitting.{bytes_long}
use Rattle.crash_log.proofs.Reading.{still_read}
use Rattle.plant_core.specs.Crashes.{seen_in}
use Rattle.plant_media.specs.Stock.{stock_of}
use Rattle.plant_media.specs.Slots.{shown}
use Rattle.plant_media.specs.Shown.{journal_whole}
use Rattle.plant_media.specs.Slotting.{one_stock, shown_log, shown_tape, shown_told, shown_kept, shown_settled, settled_other}
use Rattle.plant_media.specs.Taping.{still_same}
use Rattle.plant_media.specs.declared.tape.Tape.{Tape}
use Rattle.plant_media.proofs.plant.MediaPlant.open.Goals as goal

pub returns-else-damaged-clause-stock : goal.returns-else-damaged-clause-stock
returns-else-damaged-clause-stock g c = λ told.
    let image = g.M.Media.seen c.args.media in
    let e = c.in-Ok.ensures in
    let none : Option Tape = None in
    let whole : is_damaged (image.file 0) ≡ false = sym (e.damaged told) ∙ sym c.damaged.ensures.damaged ∙ c.if-damaged.false in
    one_stock (stock_of image) (seen_in (shown c.in-Ok.journal none image))
    (journal_whole (image.file 0) whole ∙ ap (λ (l : List ℕ). Some l) (sym (shown_log c.in-Ok.journal none image ∙ e.bytes told)))
    (λ k. sym (shown_tape c.in-Ok.journal none image k)) (sym (shown_told c.in-Ok.journal none image))
    ∙ ap (λ (s : Image). seen_in (shown c.in-Ok.journal none s)) (sym (e.seen told))

pub returns-else-damaged-clause-settled : goal.returns-else-damaged-clause-settled
returns-else-damaged-clause-settled g c = λ told.
    let m = g.M.Media in
    let none : Option Tape = None in
    let e = c.in-Ok.ensures in
    let image = m.seen c.open.new.media in
    record {
      log = shown_kept c.in-Ok.journal none image ∙ e.whole ∙ sym (ap length (shown_log c.in-Ok.journal none image) ∙ ap (λ (f : ℕ). length (log_bytes c.in-Ok.journal (image.file f))) (sym e.file) ∙ bytes_long (as_read m.seen) m.seen c.in-Ok.journal c.open.new.media (e.fits told));
      tapes = λ k. shown_settled c.in-Ok.journal none image k ∙ settled_other none image k (λ is. absurd (cc)) ∙ ap length (sym (shown_tape c.in-Ok.journal none image k));
    }

pub returns-else-damaged-clause-sound : goal.returns-else-damaged-clause-sound
returns-else-damaged-clause-sound g c =
    let m = g.M.Media in
    let e = c.in-Ok.ensures in
    record {
      journal = record {
        file = e.file;
        limit = e.limit;
        here = g.met.M.Media.journal_here c.open.new.media;
        whole = sym c.damaged.ensures.damaged ∙ c.if-damaged.false;
        fits = e.fits;
      };
      loaded = search rules;
      others = λ told k other. still_read m.seen (k + 1) c.open.new.media;
    }

pub returns-else-damaged-clause-survives : goal.returns-else-damaged-clause-survives
returns-else-damaged-clause-survives g c = λ told still.
    let m = g.M.Media in
    let e = c.in-Ok.ensures in
    let sound = returns-else-damaged-clause-sound g c in
    record {
      journal = record {
        file = sound.journal.file;
        limit = sound.journal.limit;
        here = sound.journal.here;
        whole = sound.journal.whole;
        fits = λ told. e.survives told (still 0);
      };
      loaded = search rules;
      others = λ told k other. still_same m.time m.seen (k + 1) c.args.media c.open.new.media (e.crash told).now (e.seen told) (still (k + 1));
    }
