use Rattle.std.proofs.Common.{◌≡◌, ◌++◌, ◌+◌, ◌∷◌, [], length, rules}
use Rattle.sch_io.proofs.StoredFiles.{files-added}
use Rattle.sch_io.proofs.mem_disk.append.Goals as goal

pub returns-clause-added : goal.returns-clause-added
returns-clause-added c =
    let first : c.extend_from_slice.new.self.items ≡ c.args.text.now.items ++ c.args.name.now = search rules in
    let second : c.extend_from_slice-2.new.self.items ≡ c.extend_from_slice.new.self.items ++ c.args.bytes.now = search rules in
    let at : c.len-name_at.result ≡ length c.args.text.now.items = search rules in
    let mid : c.len-bytes_at.result ≡ length c.args.text.now.items + length c.args.name.now = search rules in
    let end : c.len-end.result ≡ length c.args.text.now.items + length c.args.name.now + length c.args.bytes.now = search rules in
    let entries : c.push.new.self.items ≡ c.args.entries.now.items ++ record { name_at = c.len-name_at.result; bytes_at = c.len-bytes_at.result; end = c.len-end.result } ∷ [] = search rules in
    rw (entries, second, first) (files-added _ _ _ _ _ _ _ c.requires at mid end)
