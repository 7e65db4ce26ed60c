-- FrameSize: the size 0x0.
use Rattle.base_size.specs.declared.FrameSize.{FrameSize}

abbrev pub no_size : FrameSize
no_size = record { width = 0; height = 0 }
