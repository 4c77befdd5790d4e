use Rattle.dir_cell.proofs.ChangeLaws.{kept_named}
use Rattle.dir_cell.proofs.folder.Folder.change.Goals as goal

pub returns-clause-kept : goal.returns-clause-kept
returns-clause-kept g c =
    kept_named c.args.name.now c.in_ok-server.server c.in_ok-server.partition c.in_ok-server.volume c.args.self.now.images.items c.save.new.self.images.items c.save.result c.in_ok-server.ensures.named c.save.ensures.kept
