-- Which indexes are asked for. The source's default: the tree, from 64 segments on ("default threshold 64 segments").
use Rattle.std.specs.Prelude.{true, false}
use Rattle.outline_index.specs.declared.BuildOptions.{BuildOptions}

abbrev pub default_options : BuildOptions
default_options = record { enable_y_stripes = false; enable_compressed_quad = true; min_segments = 64 }
