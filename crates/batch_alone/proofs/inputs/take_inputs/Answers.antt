use Rattle.std.proofs.Common.{rules, ◌≡◌, ◌∙◌, ◌+◌, ◌++◌, ◌∷◌, [], ℕ, ap, arith, map, subst, sym, string_bytes}
use Rattle.std.specs.Prelude.{Option}
use Rattle.outside.specs.Shelves.{Shelf}
use Rattle.outside.specs.Faults.{RoseBy}
use Rattle.batch_jobs.specs.Jobs.{Text}
use Rattle.batch_runs.specs.Takings.{TakesOne, room}
use Rattle.batch_alone.proofs.Snoc.{taken_more, counted_more, faulted_more, rose_on}
use Rattle.batch_alone.proofs.inputs.take_inputs.Goals as goal
use Rattle.batch_alone.specs.Readings.{taking_of}

pub jobs-preserved : goal.jobs-preserved
jobs-preserved g c =
    let i = c.jobs.invariant in
    let here = c.in_ok-input.ensures in
    let items = c.jobs.list.items in
    let t = c.in_ok-input.input in
    let pushed : c.push.new.self.items ≡ items ++ t ∷ [] = search rules in
    let name : c.as_str.result.now ≡ string_bytes c.job-item.result.input = search rules in
    let P : Option Shelf → Text → Type 0 = λ told n. TakesOne told (room c.jobs.left) n (taking_of t) in
    let one = subst (λ told. P told (string_bytes c.job-item.result.input)) i.told (subst (P (g.F.Files.outside c.jobs.files).told) name here.taken) in
    let Q : ℕ → Type 0 = λ n. RoseBy n (g.F.Files.outside c.args.files.now).takes (g.F.Files.outside c.take_one.new.files).takes in
    record {
      taken = taken_more _ c.args.jobs.now c.jobs.job-index c.job-item.result items c.push.new.self.items t c.jobs.left (search rules) c.job-item.is pushed i.taken i.left one;
      left = let counted = counted_more items c.push.new.self.items t pushed in let sum = i.left in let behind = c.left_behind-left.ensures in omega (arith, counted, sum, behind);
      told = here.told ∙ i.told;
      puts = here.puts ∙ i.puts;
      takes = subst Q (sym (faulted_more items c.push.new.self.items t pushed)) (rose_on _ _ _ (g.F.Files.outside c.jobs.files).takes _ i.takes here.takes);
    }
