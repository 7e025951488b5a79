use Rattle.std.proofs.Common.{◌≡◌, ◌≤◌, ◌++◌, map, drop, length}
use Rattle.desk_openings.specs.Pinning.{shown, layout_pages, cut_pins}
use Rattle.desk_openings.proofs.pins.push_pins.Given as goal

abbrev pub invariant-loop-layout : goal.invariant-loop-layout
invariant-loop-layout l = record {
  made : map shown l.pins.items ++ cut_pins (drop l.layout-index l.layouts) l.rest ≡ map shown l.initial.pins.items ++ cut_pins l.layouts l.pages;
  enough : layout_pages (drop l.layout-index l.layouts) ≤ length l.rest;
}
