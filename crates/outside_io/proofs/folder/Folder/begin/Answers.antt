use Rattle.outside_io.proofs.Names.{name_of_place}
use Rattle.outside_io.proofs.folder.Folder.begin.Goals as goal

pub returns-clause-asked : goal.returns-clause-asked
returns-clause-asked c =
    name_of_place c.args.self.now.files.items c.args.name.now c.find_name-self.result
    (rw c.deref.ensures.value at c.find_name-self.ensures)
