-- The layout of a table's page image.
use Rattle.code_pairs.specs.Tables.{Table}
use Rattle.code_table.specs.Ascii.{is_ascii}
use Rattle.code_table.specs.Double.{all_double}
use Rattle.code_table.specs.Images.{root_of, plane_of, page_count}
use Rattle.code_table.specs.Last.{last_point}
use Rattle.code_table.specs.declared.layout.Layout.{Layout}

-- Each part of a layout is told of the table alone.
abbrev pub layout_of : Table → Layout
layout_of table = record {
  root = root_of table;
  plane = plane_of table;
  pages = page_count table;
  last = last_point table;
  double = all_double table;
  ascii = is_ascii table;
}
