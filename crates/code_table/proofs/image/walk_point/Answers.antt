use Rattle.std.proofs.Common.{◌∙◌, ap}
use Rattle.trie.specs.Look.{look_of}
use Rattle.code_table.proofs.image.walk_point.Goals as goal

pub returns-then-point-le65535-clause-value : goal.returns-then-point-le65535-clause-value
returns-then-point-le65535-clause-value g c leaves at =
    c.look_on.ensures.value leaves at ∙ ap (look_of leaves) c.row_bytes.ensures

pub returns-else-layout-ne0-clause-value : goal.returns-else-layout-ne0-clause-value
returns-else-layout-ne0-clause-value g c leaves at =
    c.look.ensures.value leaves at ∙ ap (look_of leaves) c.point_bytes.ensures
