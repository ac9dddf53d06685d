-- No line spells more zeros by numbers than are left, and which line has an octet (`captured`).
pub mod CapturedLines
-- What follows the most that is read of a capture says nothing, and a capture that was answered (`checking`).
pub mod MostCaptured
pub mod Checked
-- The script of a number is taken (`top`: `generated`).
pub mod Numbers
