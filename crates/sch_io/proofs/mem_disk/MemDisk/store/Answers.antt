use Rattle.std.proofs.Common.{◌≡◌, ◌++◌, ◌∷◌, [], map, rules, ap, ◌∙◌}
use Rattle.std.specs.FinMap.{empty}
use Rattle.sch_io.specs.Files.{written}
use Rattle.sch_io.specs.Stored.{file_of}
use Rattle.sch_io.proofs.StoredFiles.{written-push}
use Rattle.sch_io.proofs.mem_disk.MemDisk.store.Goals as goal

pub returns-clause-files : goal.returns-clause-files
returns-clause-files c =
    let old = map (file_of c.args.self.now.text.items) c.args.self.now.entries.items in
    let added : map (file_of c.append.new.text.items) c.append.new.entries.items ≡ old ++ (c.args.name.now, c.args.bytes.now) ∷ [] = search rules in
    ap (written empty) added ∙ written-push old empty (c.args.name.now, c.args.bytes.now)
