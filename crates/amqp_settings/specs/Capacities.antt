-- How many bytes can be unsent, by how long a frame may be.
use Rattle.std.specs.Prelude.{ℕ, ◌*◌, min, max}

-- the least number of octets that every peer takes as a frame (AMQP 0-9-1, frame-min-size)
abbrev pub frame_min_size : ℕ
frame_min_size = 4096

-- the most bytes that can be unsent, however long a frame may be: 128 MiB
abbrev pub greatest_capacity : ℕ
greatest_capacity = 134217728

-- how many bytes can be unsent where a frame has at most so many octets: 32 such frames
abbrev pub capacity_for : ℕ → ℕ
capacity_for frame_max = min greatest_capacity (32 * max frame_min_size frame_max)
