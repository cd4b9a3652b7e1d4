pub mod Standing
pub mod Origins
